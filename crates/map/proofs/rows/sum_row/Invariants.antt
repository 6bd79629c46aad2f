-- `map::rows::sum_row`: at cell k, the cells before it are tested and their people summed. Assumes nothing.
use Rattle.map.proofs.RowLoops.{Summed}
use Rattle.map.proofs.rows.sum_row.Given as goal

abbrev pub invariant-loop-k : goal.invariant-loop-k
invariant-loop-k l = Summed l.s l.at l.k l.fine l.people
