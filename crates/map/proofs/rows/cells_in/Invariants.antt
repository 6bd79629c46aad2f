-- `map::rows::cells_in`: at byte k, the bits of the bytes before it are counted. Assumes nothing.
use Rattle.map.proofs.RowLoops.{Counted}
use Rattle.map.proofs.rows.cells_in.Given as goal

abbrev pub invariant-loop-b : goal.invariant-loop-b
invariant-loop-b l = Counted l.s l.at l.b-index l.n
