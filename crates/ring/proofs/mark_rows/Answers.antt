-- `ring::mark_rows`: each turn reads a row's marks and lends the row writer the part from the row's start on. Assumes nothing.
use Prim.Native.Nat.{ℕ, ◌*◌, ◌≤◌}
use mathlib.Core.Path.{◌≡◌, refl, sym, ◌∙◌}
use mathlib.Core.Bool.{Bool, false}
use mathlib.Core.List.{List}
use native.Mathlib.Omega.{arith}
use native.Mathlib.Nat.{zero-mul}
use lib.ListN.{length, take}
use lib.Seq.{length-take-le, get_or-take}
use Rattle.lists.proofs.InPlace.{part_room}
use Rattle.ring.proofs.RingLaws.{Sizes, fits_in}
use Rattle.ring.proofs.MarkLaws.{mark-past, marks-start, marks-end, row_fits, pass-row}
use Rattle.ring.proofs.mark_rows.Goals.{In-loop-r}
use Rattle.ring.proofs.mark_rows.Goals as goal

sizes : (c : In-loop-r) → Sizes c.args.grid.rows c.args.grid.columns (length c.args.mask.now)
sizes c = fits_in _ _ _ c.requires.masked

-- the marks of a row of so many columns
wide : (marks : List Bool) {columns : ℕ} → columns ≤ 256 → length marks ≡ 256 → length (take columns marks) ≡ columns
wide marks {columns} narrow room = length-take-le columns marks (omega arith)

pub loop-r-init : goal.loop-r-init
loop-r-init c = rw (zero-mul c.args.grid.columns) (marks-start _ c.args.mask.now)

pub slice_bounds-mark_row-end-in-loop-r : goal.slice_bounds-mark_row-end-in-loop-r
slice_bounds-mark_row-end-in-loop-r c =
    let l = (goal.at.slice_bounds-mark_row-end-in-loop-r c).In-loop-r in
    sym (wide c.row_marks-marks.result (sizes l).narrow c.row_marks-marks.ensures.room)

pub mark_row-some-requires : goal.mark_row-some-requires
mark_row-some-requires c =
    let a = c.args in
    let l = (goal.at.mark_row-some-requires c).In-loop-r in
    let row = row_fits a.grid.rows a.grid.columns c.loop-r.r (length a.mask.now) c.requires.masked c.loop-r-test.true in
    rw (wide c.row_marks-marks.result (sizes l).narrow c.row_marks-marks.ensures.room)
    (part_room c.loop-r.mask _ a.grid.columns (omega (arith, row.0)))

pub loop-r-preserved : goal.loop-r-preserved
loop-r-preserved c =
    let a = c.args in
    let l = (goal.at.loop-r-preserved c).In-loop-r in
    let m = c.row_marks-marks in
    let z = c.mark_row-some in
    pass-row a.pass a.cells.now a.grid.rows a.grid.columns c.loop-r.invariant (sizes l).long c.loop-r-test.true
    _ z.new.part (wide m.result (sizes l).narrow m.ensures.room)
    (λ j h. get_or-take a.grid.columns m.result j false h ∙ m.ensures.told j h) z.auto.part z.ensures.bytes z.ensures.told refl

pub returns-clause-bytes : goal.returns-clause-bytes
returns-clause-bytes c =
    let a = c.args in
    let q : c.loop-r.r ≡ a.grid.rows = omega arith in
    (marks-end _ c.loop-r.invariant (a.grid.rows * a.grid.columns) (rw q) (mark-past a.pass _ _ _ _)).1
