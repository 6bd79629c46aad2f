-- Laws of what is counted: a row counts what its cells count, and the counts of an area of an accepted map are small. Assumes nothing.
use Rattle.std.proofs.Common.{◌≡◌, ℕ, zero, suc, ◌+◌, ◌*◌, ◌/◌, ◌<◌, ◌≤◌, Bool, true, false, cond, ◌&&◌, Some, None, List, [], ◌∷◌, length}
use Rattle.std.proofs.Common.{get_or, ℤ, pos}
use Rattle.std.proofs.Common.{sym, refl, ap, ◌∙◌, subst, mul-le-mul, mul-zero, mul-suc, arith}
use Rattle.lists.specs.Sums.{total, flag, count, every_below, sum_below, All}
use Rattle.lists.proofs.Tests.{first_of, second-of}
use Rattle.lists.proofs.SumLaws.{count_most, length-total, total-zero}
use Rattle.lists.proofs.BelowLaws.{every-same, sum_same, sum-most}
use Rattle.map.specs.declared.Cell.{Cell}
use Rattle.map.specs.declared.parts.Counts.{Counts}
use Rattle.map.specs.Reading.{Read, bad, good, map_read}
use Rattle.map.specs.Format.{Place, gap, cell, Area, people_at, bit_map_bytes, read_row}
use Rattle.map.specs.Cells.{cell_at, cell_within, cells_within, cells_of, cells_from, read_cells, RowTaken}
use Rattle.boxes.specs.Boxes.{box_at, boxes_over, width_over, Narrow}
use Rattle.boxes.specs.Rows.{cell_fine, row_fine, RowSums}
use Rattle.boxes.specs.declared.rows.RowCounts.{RowCounts}
use Rattle.map.specs.Counting.{
  cells_at,
  boxed_mhz_pops,
  boxed_cells,
  counts,
  place_counts,
  row_counts,
  cell_counts,
  grid_counts,
  Small,
}
use Rattle.map.specs.Accepted.{CellHolds, PlaceHolds, RowHolds, AreaHolds}
use Rattle.map.proofs.LoopLaws.{small-none, small-sum, small-more}
use Rattle.map.proofs.RowLaws.{
  past_clear,
  cell_count,
  bits-row,
  bits_most,
  row-cells,
  cells-total,
  within-holds,
  within-next,
  cells-fine,
  cells-past,
  cells-length,
  cells-next,
  cells-sum,
}

-- ---- a row by its cells

-- gaps count for nothing
pub row_counts-cells : (edges : List ℤ) (widths : List ℕ) (r : Read (List Place))
    → map_read (row_counts edges widths) r ≡ map_read (cell_counts edges widths) (map_read cells_of r)
unfolding boxed_mhz_pops boxed_cells
row_counts-cells edges widths (bad x) = refl
row_counts-cells edges widths (good row e) =
    ap (λ (c : Counts). good c e) (λ i.
    counts (cells-total people_at (λ c. c.people) refl (λ c. refl) row i) (cells-total cells_at (λ c. 1) refl (λ c. refl) row i)
    (cells-total (boxed_mhz_pops edges widths) (λ c. c.people * width_over edges widths c.latitude c.longitude) refl
    (λ c. refl) row i)
    (cells-total (boxed_cells edges) (λ c. boxes_over edges c.latitude c.longitude) refl (λ c. refl) row i))

-- a row with room for its bit map, whose bits past the last column are clear, counts what its n cells count
module _ (s : List ℕ) (columns at : ℕ) {n : ℕ} (clear : past_clear s columns at ≡ true) (is : n ≡ cell_count s columns at) where
  pub row_is : (edges : List ℤ) (widths : List ℕ) → at + bit_map_bytes columns ≤ length s
      → map_read (cell_counts edges widths) (read_cells s n (at + bit_map_bytes columns))
      ≡ map_read (row_counts edges widths) (read_row s columns at)
  row_is edges widths fits =
      sym (row_counts-cells edges widths (read_row s columns at)
      ∙ ap (map_read (cell_counts edges widths))
      (row-cells s columns at fits clear ∙ ap (λ (m : ℕ). read_cells s m (at + bit_map_bytes columns)) (sym is)))

  -- there is at most one for each column
  pub row-few : n ≤ columns
  row-few = omega (arith, is, bits-row s at columns clear, bits_most s at 0 columns)

-- no box is over a cell where there are none
none_over : (x y : ℤ) → boxes_over [] x y ≡ 0
unfolding boxes_over count
none_over x y = refl

none-wide : (widths : List ℕ) (x y : ℤ) → width_over [] widths x y ≡ 0
unfolding width_over sum_below
none-wide widths x y = refl

-- what cells count that are read under no box, whatever the widths
pub bare-counts : (s : List ℕ) (n start p : ℕ) → start + 12 * n ≤ length s → cells_within (cells_from s start n) ≡ true
    → p ≡ total (λ c. c.people) (cells_from s start n)
    → (widths : List ℕ) → good (counts p n 0 0) (start + 12 * n) ≡ map_read (cell_counts [] widths) (read_cells s n start)
bare-counts s n start p room w e widths =
    let cells = cells_from s start n in
    let number : n ≡ total (λ c. 1) cells = sym (cells-length s n start) ∙ length-total cells in
    let pops : 0 ≡ total (λ c. c.people * width_over [] widths c.latitude c.longitude) cells =
    sym (total-zero (λ c. ap (λ (k : ℕ). c.people * k) (none-wide widths c.latitude c.longitude) ∙ mul-zero c.people) cells) in
    let boxed : 0 ≡ total (λ c. boxes_over [] c.latitude c.longitude) cells =
    sym (total-zero (λ c. none_over c.latitude c.longitude) cells) in
    (λ i. good (counts (e i) (number i) (pops i) (boxed i)) (start + 12 * n))
    ∙ ap (map_read (cell_counts [] widths)) (sym (cells-fine s n start room w))

-- every cell is within its limits, by its place
within-every : (s : List ℕ) (n at : ℕ) → cells_within (cells_from s at n) ≡ every_below (λ k. cell_within (cell_at s (at + 12 * k))) n
unfolding cells_from cells_within every_below
within-every s zero at = refl
within-every s (suc n) at =
    ap cells_within (cells-next s n at)
    ∙ within-next (cells_from s at n) (cell_at s (at + 12 * n))
    ∙ ap (λ (b : Bool). b && cell_within (cell_at s (at + 12 * n))) (within-every s n at)

-- what cells count that were taken apart and held against boxes
module _ (s : List ℕ) (start n : ℕ) {ps : List ℕ} {xs ys : List ℤ} (taken : RowTaken s start n ps xs ys) where
  pub fine-within : row_fine ps xs ys n ≡ cells_within (cells_from s start n)
  unfolding cell_within
  fine-within =
      every-same
      (λ k. cell_fine (get_or ps k 0) (get_or xs k (pos 0)) (get_or ys k (pos 0))) (λ k. cell_within (cell_at s (start + 12 * k))) n
      (λ k h i. cell_fine (taken.people k h i) (taken.latitude k h i) (taken.longitude k h i))
      ∙ sym (within-every s n start)

  pub boxed-counts : {edges : List ℤ} {widths : List ℕ} {r : RowCounts} → RowSums edges widths ps xs ys n r → start + 12 * n ≤ length s
      → good (counts r.people n r.boxed_mhz_pops r.boxed_cells) (start + 12 * n)
      ≡ map_read (cell_counts edges widths) (read_cells s n start)
  boxed-counts {edges} {widths} {r} counted room =
      let here : ℕ → Cell = λ k. cell_at s (start + 12 * k) in
      let cells = cells_from s start n in
      let always : ℕ → Bool = λ _. true in
      let over : Cell → ℕ = λ c. boxes_over edges c.latitude c.longitude in
      let width : Cell → ℕ = λ c. width_over edges widths c.latitude c.longitude in
      let people = counted.people
      ∙ sum_same (λ k. get_or ps k 0) (λ k. (here k).people) always always n (λ k h. taken.people k h)
      ∙ sym (cells-sum s (λ c. c.people) n start) in
      let number : n ≡ total (λ c. 1) cells = sym (cells-length s n start) ∙ length-total cells in
      let pops = counted.boxed-mhz-pops
      ∙ sum_same (λ k. get_or ps k 0 * width_over edges widths (get_or xs k (pos 0)) (get_or ys k (pos 0)))
      (λ k. (here k).people * width (here k)) always always n
      (λ k h i. taken.people k h i * width_over edges widths (taken.latitude k h i) (taken.longitude k h i))
      ∙ sym (cells-sum s (λ c. c.people * width c) n start) in
      let under = counted.boxed-cells
      ∙ sum_same (λ k. boxes_over edges (get_or xs k (pos 0)) (get_or ys k (pos 0))) (λ k. over (here k)) always always n
      (λ k h i. boxes_over edges (taken.latitude k h i) (taken.longitude k h i))
      ∙ sym (cells-sum s over n start) in
      (λ i. good (counts (people i) (number i) (pops i) (under i)) (start + 12 * n))
      ∙ ap (map_read (cell_counts edges widths)) (sym (cells-fine s n start room (sym fine-within ∙ counted.fine)))

-- what a sum of cells tells that is there only if they are within their limits
pub told_fine : (t : Bool) {p q : ℕ} → Some p ≡ cond t (Some q) None → (t ≡ true) × (p ≡ q)
told_fine true e = (refl, cc)
told_fine false e = cc

pub told_past : (t : Bool) (q : ℕ) → None ≡ cond t (Some q) None → t ≡ false
told_past true q e = cc
told_past false q e = refl

-- a cell past its limits refuses them
pub past-counts : (s : List ℕ) (n start : ℕ) (edges : List ℤ) (widths : List ℕ) → start + 12 * n ≤ length s
    → cells_within (cells_from s start n) ≡ false → bad 2 ≡ map_read (cell_counts edges widths) (read_cells s n start)
past-counts s n start edges widths room w = ap (map_read (cell_counts edges widths)) (sym (cells-past s n start room w))

-- ---- the counts are small

flag-times : (w : ℕ) (b : Bool) → w * flag b ≤ w
flag-times w true = omega arith
flag-times w false = omega arith

module _ (edges : List ℤ) (widths : List ℕ) (few : length edges ≤ 256) (narrow : Narrow edges widths) where
  over-few : (latitude longitude : ℤ) → boxes_over edges latitude longitude ≤ 64
  unfolding boxes_over
  over-few x y = omega (arith, count_most (box_at edges x y (length edges / 4)) (length edges / 4))

  width_few : (latitude longitude : ℤ) → width_over edges widths latitude longitude ≤ 255 * 64
  unfolding width_over
  width_few x y =
      let n = length edges / 4 in
      let each : (i : ℕ) → i < n → get_or widths i 0 * flag (box_at edges x y n i) ≤ 255 = λ i l.
      omega (arith, narrow i l, flag-times (get_or widths i 0) (box_at edges x y n i)) in
      omega (arith, sum-most (λ i. get_or widths i 0 * flag (box_at edges x y n i)) (λ _. true) 255 n each)

  cell-small : (c : Cell) → CellHolds c →
      let over = boxes_over edges c.latitude c.longitude in
      Small 1 (counts c.people 1 (c.people * width_over edges widths c.latitude c.longitude) over)
  cell-small c h = record {
    people = omega (arith, h.people);
    cells = omega arith;
    boxed-mhz-pops = omega (arith, mul-le-mul h.people (width_few c.latitude c.longitude));
    boxed-cells = omega (arith, over-few c.latitude c.longitude);
  }

  -- of cells within their limits
  pub cells-small : (l : List Cell) → cells_within l ≡ true → Small (length l) (cell_counts edges widths l)
  unfolding cells_within
  cells-small [] w = small-none 0
  cells-small (c ∷ l) w =
      let h = within-holds c (first_of (cell_within c) (cells_within l) w) in
      small-more (omega arith) (small-sum (cell-small c h) (cells-small l (second-of (cell_within c) (cells_within l) w)))

  place-small : (p : Place) → PlaceHolds p → Small 1 (place_counts edges widths p)
  unfolding boxed_mhz_pops boxed_cells
  place-small gap h = small-none 1
  place-small (cell c) h = cell-small c h

  places-small : (row : List Place) → All PlaceHolds row → Small (length row) (row_counts edges widths row)
  places-small [] h = small-none 0
  places-small (p ∷ row) h = small-more (omega arith) (small-sum (place-small p h.0) (places-small row h.1))

  rows-small : (columns : ℕ) (grid : List (List Place)) → All (RowHolds columns) grid
      → Small (columns * length grid) (grid_counts edges widths grid)
  rows-small columns [] h = small-none (columns * 0)
  rows-small columns (row ∷ grid) h =
      let grows : columns * suc (length grid) ≡ columns * length grid + columns = mul-suc columns (length grid) in
      let size = h.0.0 in
      small-more (omega arith) (small-sum (places-small row h.0.1) (rows-small columns grid h.1))

  -- 65,536 places bound every area
  pub area_small : {s : List ℕ} {a : Area} → AreaHolds s a → Small 65536 (grid_counts edges widths a.grid)
  area_small {s} {a} h =
      let rows = h.grid.0 in
      small-more (omega (arith, mul-le-mul h.columns.1 h.rows.1, rows))
      (subst (λ (n : ℕ). Small (a.head.columns * n) (grid_counts edges widths a.grid)) rows
      (rows-small a.head.columns a.grid h.grid.1))

-- what cells count that are read is small
pub tally-small : (s : List ℕ) (n start : ℕ) (edges : List ℤ) (widths : List ℕ) → length edges ≤ 256
    → Narrow edges widths → start + 12 * n ≤ length s → cells_within (cells_from s start n) ≡ true
    → {c : Counts} {e : ℕ} → good c e ≡ map_read (cell_counts edges widths) (read_cells s n start) → Small n c
tally-small s n start edges widths few narrow room w {c} {e} q =
    let read : good c e ≡ good (cell_counts edges widths (cells_from s start n)) (start + 12 * n) =
    q ∙ ap (map_read (cell_counts edges widths)) (cells-fine s n start room w) in
    let same : cell_counts edges widths (cells_from s start n) ≡ c = cc in
    subst (Small n) same
    (subst (λ (m : ℕ). Small m (cell_counts edges widths (cells_from s start n))) (cells-length s n start)
    (cells-small edges widths few narrow (cells_from s start n) w))
