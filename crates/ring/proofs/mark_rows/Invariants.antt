-- `ring::mark_rows`: the rows before row r are marked. Assumes nothing.
use Prim.Native.Nat.{◌*◌}
use Rattle.ring.proofs.MarkLaws.{Passed}
use Rattle.ring.proofs.mark_rows.Given as goal

abbrev pub invariant-loop-r : goal.invariant-loop-r
invariant-loop-r l = Passed l.pass l.cells l.fn.mask l.mask l.grid.rows l.grid.columns l.any (l.r * l.grid.columns)
