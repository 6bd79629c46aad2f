-- `ring::settle`: the rows before row r are done. Assumes nothing.
use Prim.Native.Nat.{◌*◌}
use Rattle.lists.proofs.InPlace.{Rewritten}
use Rattle.ring.specs.Ring.{settled}
use Rattle.ring.proofs.settle.Given as goal

abbrev pub invariant-loop-r : goal.invariant-loop-r
invariant-loop-r l = Rewritten (settled l.to (l.grid.rows * l.grid.columns)) l.fn.mask l.mask (l.r * l.grid.columns)
