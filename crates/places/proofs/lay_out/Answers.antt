-- `places::lay_out`: one row a turn, laid into the parts of the lists from its first place on. Assumes nothing.
use Prim.Native.Nat.{◌+◌, ◌*◌, ◌≤◌, ◌<◌, ℕ}
use mathlib.Core.List.{List}
use lib.IntN.{ℤ}
use native.Mathlib.Omega.{arith}
use native.Mathlib.Nat.{mul-le-mul}
use Rattle.places.specs.Places.{Lists}
use Rattle.places.proofs.LayLaws.{LayingRows, rows_start, row-good, row_fits, part_room, rows-turn, rows_end}
use Rattle.places.proofs.lay_out.Goals as goal

-- a turn's row lies within the lists, and its places have small numbers
small :
    {s : List ℕ}
    {columns rows start always : ℕ}
    {edges : List ℤ}
    {before now : Lists}
    {next r : ℕ}
    (l : LayingRows s columns rows start always edges before now next r)
    → r < rows → columns ≤ 256 → rows ≤ 256 → r * columns + columns ≤ 65536
small l h a b = omega (arith, row_fits l h, mul-le-mul b a)

pub loop-r-init : goal.loop-r-init
loop-r-init c = rows_start c.requires.0

pub lay_row-from-requires : goal.lay_row-from-requires
lay_row-from-requires c =
    let l = c.loop-r in
    let p = c.requires in
    let h = c.loop-r-test.true in
    let r = part_room l.invariant h (record { people = p.3; cells = p.4; mask = p.5 }) in
    (row-good l.invariant h, p.1, r.people, r.cells, r.mask)

pub overflow_mul-at : goal.overflow_mul-at
overflow_mul-at c =
    let p = c.requires in omega (arith, small c.loop-r.invariant c.loop-r-test.true p.1 p.2)

pub loop-r-preserved : goal.loop-r-preserved
loop-r-preserved c =
    let p = c.requires in
    let z = c.lay_row-from in
    rows-turn c.loop-r.invariant (record { people = z.new.people; cells = z.new.cells; mask = z.new.mask }) c.loop-r-test.true
    (record { people = p.3; cells = p.4; mask = p.5 })
    (record { people = z.auto.people; cells = z.auto.cells; mask = z.auto.mask }) z.ensures

pub returns : goal.returns
returns c = rows_end c.loop-r.invariant c.loop-r-test.false
