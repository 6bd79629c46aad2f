-- The cells of a row held against boxes. Cell k of n has what stands at place k of three lists: people, latitudes and longitudes.
-- Assumes nothing.
use Rattle.std.specs.Prelude.{ℕ, zero, suc, ◌*◌, ◌≤◌, ◌<◌, ◌≡◌, List, Option, None, Some, Bool, true, false, ◌&&◌, leb, ℤ, pos, negsuc, get_or}
use Rattle.std.specs.Int.{int_min, int_max}
use Rattle.lists.specs.Sums.{flag, every_below, sum_to}
use Rattle.units.specs.Coordinates.{is_latitude, is_longitude}
use Rattle.boxes.specs.Boxes.{box_covers, boxes_over, width_over, Narrow}
use Rattle.boxes.specs.declared.rows.Span.{Span}
use Rattle.boxes.specs.declared.rows.Outline.{Outline}
use Rattle.boxes.specs.declared.rows.Under.{Under}
use Rattle.boxes.specs.declared.rows.BoxSums.{BoxSums}
use Rattle.boxes.specs.declared.rows.RowCounts.{RowCounts}

-- ---- what a row's cells come to

-- "The map": a cell's people, 0 to 1,000,000, its latitude and its longitude
abbrev pub cell_fine : (people : ℕ) (latitude longitude : ℤ) → Bool
cell_fine people latitude longitude = leb people 1_000_000 && is_latitude latitude && is_longitude longitude

-- all of the row's cells are within the map's limits
abbrev pub row_fine : (people : List ℕ) (latitudes longitudes : List ℤ) (n : ℕ) → Bool
row_fine people latitudes longitudes =
    every_below (λ k. cell_fine (get_or people k 0) (get_or latitudes k (pos 0)) (get_or longitudes k (pos 0)))

-- document 02, Paper 4: "the sum of width × people covered", and Paper 1, the count of covered cells: of one row under boxes, each cell
-- once for each box that covers it; `ps` has the cells' people
pub record RowSums
    (edges : List ℤ)
    (widths ps : List ℕ)
    (latitudes longitudes : List ℤ)
    (n : ℕ)
    (r : RowCounts)
    : Type 0 where
  pub fine : row_fine ps latitudes longitudes n ≡ true
  pub people : r.people ≡ sum_to (λ k. get_or ps k 0) n
  pub boxed-mhz-pops : r.boxed_mhz_pops
      ≡ sum_to (λ k. get_or ps k 0 * width_over edges widths (get_or latitudes k (pos 0)) (get_or longitudes k (pos 0))) n
  pub boxed-cells : r.boxed_cells
      ≡ sum_to (λ k. boxes_over edges (get_or latitudes k (pos 0)) (get_or longitudes k (pos 0))) n
  pub narrow : Narrow edges widths
  pub few-people : r.people ≤ 256_000_000
  pub few-boxed-mhz-pops : r.boxed_mhz_pops ≤ 64 * 255 * 256_000_000
  pub few-boxed-cells : r.boxed_cells ≤ 64 * 256

-- the three sums of a row within the map's limits, and nothing of one with a cell outside them
abbrev pub RowCounted : (edges : List ℤ) (widths ps : List ℕ) (latitudes longitudes : List ℤ) (n : ℕ) → Option RowCounts → Type 0
RowCounted edges widths ps latitudes longitudes n None = row_fine ps latitudes longitudes n ≡ false
RowCounted edges widths ps latitudes longitudes n (Some r) = RowSums edges widths ps latitudes longitudes n r

-- ---- what the parts of the count give

-- n values, joined one after another to what they start from
unfoldable pub join_to : {A : Type 0} → (join : A → A → A) (start : A) (f : ℕ → A) (n : ℕ) → A
join_to join start f zero = start
join_to join start f (suc i) = join (join_to join start f i) (f i)

-- the least and the greatest of n coordinates, from the ends of an i32 on
pub record SpanOf (values : List ℤ) (n : ℕ) (s : Span) : Type 0 where
  pub least : s.least ≡ join_to int_min (pos 2_147_483_647) (λ k. get_or values k (pos 0)) n
  pub greatest : s.greatest ≡ join_to int_max (negsuc 2_147_483_647) (λ k. get_or values k (pos 0)) n

-- so few cells, each of so few people, that sums over them fit
pub record FewPeople (people : List ℕ) (n : ℕ) : Type 0 where
  pub few : n ≤ 256
  pub each : (k : ℕ) → k < n → get_or people k 0 ≤ 1_000_000

-- a row's spans and its people
pub record Outlined (ps : List ℕ) (xs ys : List ℤ) (n : ℕ) (o : Outline) : Type 0 where
  pub latitudes : SpanOf xs n o.latitudes
  pub longitudes : SpanOf ys n o.longitudes
  pub people : o.people ≡ sum_to (λ k. get_or ps k 0) n

-- a test of a point, at cell k
abbrev pub test_at : (test : ℤ → ℤ → Bool) (latitudes longitudes : List ℤ) → ℕ → Bool
test_at test latitudes longitudes k = test (get_or latitudes k (pos 0)) (get_or longitudes k (pos 0))

-- a box covers cell k
abbrev pub cell_under : (south north west east : ℤ) (latitudes longitudes : List ℤ) → ℕ → Bool
cell_under south north west east = test_at (box_covers south north west east)

-- the people and the cells that pass a test, as a box covers them
pub record UnderBox (ps : List ℕ) (test : ℕ → Bool) (n : ℕ) (u : Under) : Type 0 where
  pub people : u.people ≡ sum_to (λ k. get_or ps k 0 * flag (test k)) n
  pub cells : u.cells ≡ sum_to (λ k. flag (test k)) n
  pub few-people : u.people ≤ 256_000_000
  pub few-cells : u.cells ≤ 256

-- the MHz-pops and the cells under all boxes, a cell once for each box
pub record UnderBoxes (edges : List ℤ) (widths ps : List ℕ) (latitudes longitudes : List ℤ) (n : ℕ) (s : BoxSums) : Type 0 where
  pub mhz-pops : s.mhz_pops
      ≡ sum_to (λ k. get_or ps k 0 * width_over edges widths (get_or latitudes k (pos 0)) (get_or longitudes k (pos 0))) n
  pub cells : s.cells ≡ sum_to (λ k. boxes_over edges (get_or latitudes k (pos 0)) (get_or longitudes k (pos 0))) n
  pub narrow : Narrow edges widths
  pub few-mhz-pops : s.mhz_pops ≤ 64 * 255 * 256_000_000
  pub few-cells : s.cells ≤ 64 * 256
