-- Document 01, "Coverage and blocks": which cells a licence covers, and c of an area, which document 02, Paper 4, counts in MHz-pops; and
-- Paper 1: its sum of cells. Assumes nothing.
use Rattle.std.specs.Prelude.{ℕ, ◌*◌, Bool, cond, List, map, eqb}
use Rattle.lists.specs.Sums.{total}
use Rattle.map.specs.declared.Cell.{Cell}
use Rattle.map.specs.Format.{Place, gap, cell, Area, population}
use Rattle.boxes.specs.Boxes.{box_covers}
use Rattle.register.specs.declared.Ground.{Ground}
use Rattle.register.specs.declared.Ground.TheVariants as ground
use Rattle.register.specs.declared.Licence.{Licence}
use Rattle.coverage.specs.declared.Holding.{Holding}
use Rattle.coverage.specs.declared.CoverageSums.{CoverageSums}

-- "A box covers a cell if ..": by its edges, wherever the cell is. "A PEA ground covers every cell of that area", and no other:
-- `number` is the number of the cell's area
abbrev pub covers : Ground → (number : ℕ) → Cell → Bool
covers (ground.Area n) number c = eqb n number
covers (ground.Box b) number c = box_covers b.south b.north b.west b.east c.latitude c.longitude

-- the people at a place of the area, if the licence covers it
abbrev pub people_under : Licence → (number : ℕ) → Place → ℕ
people_under l number gap = 0
people_under l number (cell c) = cond (covers l.ground number c) c.people 0

-- the people in the cells of an area that one licence covers
abbrev pub people_by : Area → Licence → ℕ
people_by a l = total (total (people_under l a.head.number)) a.grid

-- document 02, Paper 4: "width × people covered", of one licence
abbrev pub covered_by : Area → Licence → ℕ
covered_by a l = l.width * people_by a l

-- document 02, Paper 4: "For an area, c becomes the sum of width × people covered", over licences in force
abbrev pub coverage : List Licence → Area → ℕ
coverage licences a = total (covered_by a) licences

-- document 02, Paper 1: "the count of covered cells. Cells without people count too": the cell at a place of the area, if the licence
-- covers it
abbrev pub cell_under : Licence → (number : ℕ) → Place → ℕ
cell_under l number gap = 0
cell_under l number (cell c) = cond (covers l.ground number c) 1 0

-- the cells of an area that one licence covers
abbrev pub cells_by : Area → Licence → ℕ
cells_by a l = total (total (cell_under l a.head.number)) a.grid

-- document 02, Paper 1: "and a cell under two licences counts twice", whatever their widths: the sum of cells of an area, over licences
-- in force
abbrev pub sum_of_cells : List Licence → Area → ℕ
sum_of_cells licences a = total (cells_by a) licences

-- document 02, Paper 1: "Coverage in an area now gives two numbers: people, as before, and the count of covered cells"; Paper 4:
-- "Coverage .. give this c in the place of people"
abbrev pub coverage_sums : List Licence → Area → CoverageSums
coverage_sums licences a = record { mhz_pops = record { 0 = coverage licences a }; cells = record { 0 = sum_of_cells licences a } }

-- an area with its c and its sum of cells: what its blocks and the proposal are made of
abbrev pub holding_of : List Licence → Area → Holding
holding_of licences a = record {
  number = a.head.number;
  weight = a.head.weight;
  population = record { 0 = population a.grid };
  covered = record { 0 = coverage licences a };
  cells = record { 0 = sum_of_cells licences a };
}

-- c and the sum of cells of an area that has them
abbrev pub sums_of_holding : Holding → CoverageSums
sums_of_holding h = record { mhz_pops = h.covered; cells = h.cells }

-- the areas of a map, each with its c
abbrev pub holdings_of : List Licence → List Area → List Holding
holdings_of licences areas = map (holding_of licences) areas
