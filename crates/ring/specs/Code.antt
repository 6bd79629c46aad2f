-- How the code marks a ring: the places of one pass over the grid. Assumes nothing.
use Rattle.std.specs.Prelude.{ℕ, ◌+◌, ◌*◌, ◌%◌, ◌≤◌, ◌<◌, ◌≡◌, Bool, true, false}
use Rattle.ring.specs.Ring.{Places, around, outside, edge}
use Rattle.ring.specs.declared.Pass.{Pass}
use Rattle.ring.specs.declared.Pass.TheVariants.{Around, Outside, Edge}

-- whether a pass is one of a set that grows
abbrev pub grows : Pass → Bool
grows Around = true
grows Outside = true
grows Edge = false

-- the places that it marks
unfoldable pub to_mark : Pass → (cells f : Places) → (n columns : ℕ) → Places
to_mark Around cells f n columns i = around cells f n columns i
to_mark Outside cells f n columns i = outside cells f n i
to_mark Edge cells f n columns i = edge f n columns i

-- a place of a grid: its row, its column and its number; in the first row no place is above it, in the last row none
-- is below it, and the last column's next place is in another row
pub record Inside (rows columns row column number : ℕ) : Type 0 where
  pub low : number < rows * columns
  pub is : number % columns ≡ column
  pub in_grid : row < rows
  pub in_row : column < columns
  pub narrow : columns ≤ 256
  pub few : rows * columns ≤ 65536
  pub first : row ≡ 0 → number < columns
  pub later : (row ≡ 0 → ⊥) → columns ≤ number
  pub last : row + 1 ≡ rows → rows * columns ≤ number + columns
  pub earlier : (row + 1 ≡ rows → ⊥) → number + columns < rows * columns
  pub next : (column + 1 ≡ columns → ⊥) → number + 1 < rows * columns
