-- What one walk over an area's cells counts: people and cells, and the MHz-pops and cells under boxes. Population and coverage come from
-- these sums.
-- Assumes nothing.
use Rattle.std.specs.Prelude.{ℕ, ◌+◌, ◌*◌, ◌≤◌, List, ℤ}
use Rattle.lists.specs.Sums.{total}
use Rattle.units.specs.Sums.{capped}
use Rattle.boxes.specs.Boxes.{boxes_over, width_over}
use Rattle.map.specs.declared.Cell.{Cell}
use Rattle.map.specs.declared.parts.Counts.{Counts}
use Rattle.map.specs.Format.{Place, gap, cell, people_at, population}

-- the cells that stand at a place: one, or none
abbrev pub cells_at : Place → ℕ
cells_at gap = 0
cells_at (cell c) = 1

-- document 02, Paper 4: "the sum of width × people covered": the MHz-pops at a place, over the boxes that cover it
unfoldable pub boxed_mhz_pops : (edges : List ℤ) (widths : List ℕ) → Place → ℕ
boxed_mhz_pops edges widths gap = 0
boxed_mhz_pops edges widths (cell c) = c.people * width_over edges widths c.latitude c.longitude

-- document 02, Paper 1: "the count of covered cells. Cells without people count too, and a cell under two licences counts twice": the
-- cell that stands at a place, once for each box that covers it
unfoldable pub boxed_cells : (edges : List ℤ) → Place → ℕ
boxed_cells edges gap = 0
boxed_cells edges (cell c) = boxes_over edges c.latitude c.longitude

-- the four counts of a walk
abbrev pub counts : (people cells boxed-mhz-pops boxed-cells : ℕ) → Counts
counts p n q m = record {
  people = record { 0 = p };
  cells = record { 0 = n };
  boxed_mhz_pops = record { 0 = q };
  boxed_cells = record { 0 = m };
}

abbrev pub no_counts : Counts
no_counts = counts 0 0 0 0

-- of one place, of a row and of a grid
abbrev pub place_counts : (edges : List ℤ) (widths : List ℕ) → Place → Counts
place_counts edges widths p = counts (people_at p) (cells_at p) (boxed_mhz_pops edges widths p) (boxed_cells edges p)

abbrev pub row_counts : (edges : List ℤ) (widths : List ℕ) → List Place → Counts
row_counts edges widths row =
    counts (total people_at row) (total cells_at row) (total (boxed_mhz_pops edges widths) row) (total (boxed_cells edges) row)

-- the same of a list of cells
abbrev pub cell_counts : (edges : List ℤ) (widths : List ℕ) → List Cell → Counts
cell_counts edges widths cells =
    counts (total (λ c. c.people) cells) (total (λ c. 1) cells)
    (total (λ c. c.people * width_over edges widths c.latitude c.longitude) cells)
    (total (λ c. boxes_over edges c.latitude c.longitude) cells)

abbrev pub grid_counts : (edges : List ℤ) (widths : List ℕ) → List (List Place) → Counts
grid_counts edges widths grid =
    counts (population grid) (total (total cells_at) grid) (total (total (boxed_mhz_pops edges widths)) grid)
    (total (total (boxed_cells edges)) grid)

-- ---- sums of counts, and their bounds

-- what two parts come to together
abbrev pub sum : Counts → Counts → Counts
sum a b =
    counts (a.people.0 + b.people.0) (a.cells.0 + b.cells.0) (a.boxed_mhz_pops.0 + b.boxed_mhz_pops.0)
    (a.boxed_cells.0 + b.boxed_cells.0)

-- the same in sums that stop at the largest count
abbrev pub capped_sum : Counts → Counts → Counts
capped_sum a b =
    counts (capped (a.people.0 + b.people.0)) (capped (a.cells.0 + b.cells.0))
    (capped (a.boxed_mhz_pops.0 + b.boxed_mhz_pops.0)) (capped (a.boxed_cells.0 + b.boxed_cells.0))

-- the counts of n places at most: 1,000,000 people and one cell at each, under 64 boxes, each at most 255 MHz wide
pub record Small (n : ℕ) (c : Counts) : Type 0 where
  pub people : c.people.0 ≤ 1000000 * n
  pub cells : c.cells.0 ≤ n
  pub boxed-mhz-pops : c.boxed_mhz_pops.0 ≤ 16320000000 * n
  pub boxed-cells : c.boxed_cells.0 ≤ 64 * n
