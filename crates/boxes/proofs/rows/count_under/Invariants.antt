-- `boxes::rows::count_under`: the people and the cells before cell k that pass the test are summed. Assumes nothing.
use Rattle.std.proofs.Common.{◌≡◌, ◌*◌, ◌≤◌, Bool, ℤ}
use Rattle.boxes.specs.Rows.{test_at}
use Rattle.boxes.proofs.RowLaws.{UnderTo}
use Rattle.boxes.proofs.rows.count_under.Given as goal

abbrev pub invariant-loop-k : goal.invariant-loop-k
invariant-loop-k g l =
    (l.people ≤ 1_000_000 * l.k) × (l.cells ≤ l.k)
    × ((test : ℤ → ℤ → Bool) → ((x y : ℤ) (b : Bool) → goal.F-post g l.covers x y b → b ≡ test x y)
    → UnderTo l.row.people (test_at test l.row.latitudes l.row.longitudes) l.k l.people l.cells)
