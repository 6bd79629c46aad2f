-- `map::parts::first_fault`: one cell a turn, up to the one with a fault. Assumes nothing.
use Rattle.map.proofs.ShortLaws.{Left}
use Rattle.map.proofs.parts.first_fault.Given as goal

abbrev pub invariant-loop : goal.invariant-loop
invariant-loop l = Left l.s l.n l.start l.counter l.at
