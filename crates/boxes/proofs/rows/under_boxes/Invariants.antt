-- `boxes::rows::under_boxes`: at box i, what the boxes before it cover is summed, cell by cell. Assumes nothing.
use Rattle.std.proofs.Common.{◌≡◌, ℕ, ◌*◌, ◌≤◌, ◌<◌, pos, get_or}
use Rattle.lists.specs.Sums.{count, sum_to}
use Rattle.boxes.proofs.BoxLaws.{test_of}
use Rattle.boxes.proofs.RowLaws.{width_to}
use Rattle.boxes.proofs.rows.under_boxes.Given as goal

abbrev pub invariant-loop-i : goal.invariant-loop-i
invariant-loop-i l =
    (l.mhz_pops ≤ 255 * 256_000_000 * l.i) × (l.cells ≤ 256 * l.i)
    × (l.mhz_pops
    ≡ sum_to (λ k. get_or l.row.people k 0
    * width_to l.boxes.widths (test_of l.boxes (get_or l.row.latitudes k (pos 0)) (get_or l.row.longitudes k (pos 0))) l.i) l.row.count)
    × (l.cells
    ≡ sum_to (λ k. count (test_of l.boxes (get_or l.row.latitudes k (pos 0)) (get_or l.row.longitudes k (pos 0))) l.i) l.row.count)
    × ((j : ℕ) → j < l.i → get_or l.boxes.widths j 0 ≤ 255)
