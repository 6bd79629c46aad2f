-- What holds of an accepted map: laws that callers above cite. Assumes nothing.
use Rattle.std.specs.Prelude.{◌≡◌, ℕ, ◌-◌, ◌<◌, ◌≤◌, true, List, [], ◌∷◌, length}
use Rattle.lists.specs.Sums.{All}
use Rattle.units.specs.Coordinates.{is_latitude, is_longitude}
use Rattle.map.specs.declared.Cell.{Cell}
use Rattle.map.specs.Reading.{good}
use Rattle.map.specs.Format.{Place, gap, cell, population, read_rows, Area}
use Rattle.map.specs.Answers.{between}

-- between two numbers, both ends included
abbrev pub Within : ℕ → ℕ → ℕ → Type 0
Within low high n = (low ≤ n) × (n ≤ high)

-- "A cell": each field within its limits
pub record CellHolds (c : Cell) : Type 0 where
  pub people : c.people ≤ 1_000_000
  pub latitude : is_latitude c.latitude ≡ true
  pub longitude : is_longitude c.longitude ≡ true

abbrev pub PlaceHolds : Place → Type 0
PlaceHolds gap = Unit {0}
PlaceHolds (cell c) = CellHolds c

-- a row has a place for each column
abbrev pub RowHolds : ℕ → List Place → Type 0
RowHolds columns row = (length row ≡ columns) × All PlaceHolds row

-- a grid has a list of places for each row
abbrev pub GridHolds : (columns rows : ℕ) → List (List Place) → Type 0
GridHolds columns rows grid = (length grid ≡ rows) × All (RowHolds columns) grid

-- "Each area": each field within its limits, a place for each row and column, and where its rows stand
pub record AreaHolds (s : List ℕ) (a : Area) : Type 0 where
  pub number : Within 1 416 a.head.number
  pub weight : Within 1 65_535 a.head.weight
  pub rows : Within 1 128 a.head.rows
  pub columns : Within 1 128 a.head.columns
  pub peopled : Within 1 40_000_000 (population a.grid)
  pub grid : GridHolds a.head.columns a.head.rows a.grid
  -- its part is inside the map
  pub inside : (a.start ≤ a.end) × (a.end ≤ length s)
  -- its rows are read again from its start, and in its part from 0
  pub reads : read_rows s a.head.columns a.head.rows a.start ≡ good a.grid a.end
  pub part : read_rows (between s a.start a.end) a.head.columns a.head.rows 0 ≡ good a.grid (a.end - a.start)

-- numbers ascend, from above `before`
abbrev pub Ascending : ℕ → List Area → Type 0
Ascending before [] = Unit {0}
Ascending before (a ∷ l) = (before < a.head.number) × Ascending a.head.number l

-- "The map": 1 to 32 areas in ascending order
pub record MapHolds (s : List ℕ) (areas : List Area) : Type 0 where
  pub count : Within 1 32 (length areas)
  pub ascending : Ascending 0 areas
  pub each : All (AreaHolds s) areas
