-- `footprint::share_in`: the place of the first area that gets a share. Assumes nothing.
use Rattle.footprint.proofs.TurnLaws.{Looking}
use Rattle.footprint.proofs.share_in.Given as goal

abbrev pub invariant-loop-i : goal.invariant-loop-i
invariant-loop-i l = Looking l.areas l.i
