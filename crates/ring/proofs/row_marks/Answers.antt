-- `ring::row_marks`: each turn tells of a place. Assumes nothing.
use Prim.Native.Nat.{◌+◌, ◌*◌, ◌≤◌}
use native.Mathlib.Omega.{arith}
use native.Mathlib.Nat.{mul-le-mul}
use lib.ListN.{length}
use Rattle.ring.specs.Code.{Inside}
use Rattle.ring.proofs.RingLaws.{fits_in}
use Rattle.ring.proofs.MarkLaws.{inside_of}
use Rattle.ring.proofs.row_marks.Goals.{In-loop-c}
use Rattle.ring.proofs.row_marks.Goals as goal

-- the place of a turn
inside : (c : In-loop-c) →
    let grid = c.args.grid in
    Inside grid.rows grid.columns c.args.r c.loop-c.c (c.args.r * grid.columns + c.loop-c.c)
inside c =
    let a = c.args in
    inside_of a.grid.rows a.grid.columns (length a.mask.now) a.r c.loop-c.c
    (fits_in a.grid.rows a.grid.columns (length a.mask.now) c.requires.masked) c.requires.low c.loop-c-test.true

pub overflow_mul-start : goal.overflow_mul-start
overflow_mul-start c =
    let a = c.args in
    let sizes = fits_in a.grid.rows a.grid.columns (length a.mask.now) c.requires.masked in
    let low : a.r ≤ 256 = omega (arith, c.requires.low, sizes.low) in
    omega (arith, mul-le-mul low sizes.narrow)

pub overflow_add-place : goal.overflow_add-place
overflow_add-place c = let place = inside c in omega (arith, place.low, place.few)

pub invariant_of-place : goal.invariant_of-place
invariant_of-place c =
    let a = c.args in
    record { inside = inside c; masked = (fits_in a.grid.rows a.grid.columns (length a.mask.now) c.requires.masked).long }

pub to_mark-requires : goal.to_mark-requires
to_mark-requires c =
    let a = c.args in (fits_in a.grid.rows a.grid.columns (length a.cells.now) c.requires.celled).long
