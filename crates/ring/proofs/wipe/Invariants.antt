-- `ring::wipe`: the rows before row r are done. Assumes nothing.
use Prim.Native.Nat.{◌*◌}
use Rattle.lists.proofs.InPlace.{Rewritten}
use Rattle.ring.specs.Ring.{wiped}
use Rattle.ring.proofs.wipe.Given as goal

abbrev pub invariant-loop-r : goal.invariant-loop-r
invariant-loop-r l = Rewritten (wiped (l.grid.rows * l.grid.columns)) l.fn.mask l.mask (l.r * l.grid.columns)
