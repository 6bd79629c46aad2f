-- `ring::row_marks`: the places before column c are told. Assumes nothing.
use Prim.Native.Nat.{◌+◌, ◌*◌}
use mathlib.Core.Bool.{false}
use lib.ListN.{replicate}
use Rattle.lists.proofs.InPlace.{Filled}
use Rattle.ring.specs.Ring.{seen, shown}
use Rattle.ring.specs.Code.{grows, to_mark}
use Rattle.ring.proofs.row_marks.Given as goal

abbrev pub invariant-loop-c : goal.invariant-loop-c
invariant-loop-c l =
    let n = l.grid.rows * l.grid.columns in
    let places = to_mark l.pass (shown l.cells) (seen (grows l.pass) l.mask) n l.grid.columns in
    Filled (λ j. places (l.r * l.grid.columns + j)) false (replicate 256 false) l.marks l.c
