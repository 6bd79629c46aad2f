-- `kept_holdings::play_items`: what is left of the items is no longer than the case. Assumes nothing.
use Rattle.std.proofs.Common.{◌≤◌, length}
use Rattle.kept_holdings.proofs.play_items.Given as goal

abbrev pub invariant-loop : goal.invariant-loop
invariant-loop g l = length l.rest ≤ length l.s
