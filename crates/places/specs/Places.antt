-- Document 01, "The map" and "The footprint": an area's cells by the numbers of their places, row by row. Assumes nothing.
use Rattle.std.specs.Prelude.{ℕ, ◌+◌, ◌*◌, ◌/◌, ◌%◌, ◌≡◌, List, [], Bool, true, false, cond, ltb, ℤ, get_or}
use Rattle.lists.specs.Sums.{flag}
use Rattle.map.specs.Reading.{Read, bad, good}
use Rattle.map.specs.Format.{Place, gap, cell, people_at}
use Rattle.boxes.specs.Boxes.{boxes_over}

-- "by row then column": what stands at place i of a grid with so many columns
abbrev pub place_of : List (List Place) → (columns i : ℕ) → Place
place_of grid columns i = get_or (get_or grid (i / columns) []) (i % columns) gap

-- "a place without a cell"
abbrev pub is_cell : Place → Bool
is_cell gap = false
is_cell (cell c) = true

-- a cell that a licence covers: `always` licences have the whole area, and the edges are those of the boxes
abbrev pub is_covered : (always : ℕ) → (edges : List ℤ) → Place → Bool
is_covered always edges gap = false
is_covered always edges (cell c) = ltb 0 (always + boxes_over edges c.latitude c.longitude)

-- the rows that were read, none where they are refused
abbrev pub grid_of : Read (List (List Place)) → List (List Place)
grid_of (bad f) = []
grid_of (good grid e) = grid

-- a reading that is not refused
abbrev pub IsGood : {A : Type 0} → Read A → Type 0
IsGood (bad f) = ⊥
IsGood (good a e) = Unit {0}

-- the three lists of an area: the people of each place, 1 where it has a cell, and 1 where a licence covers the cell
pub record Lists : Type 0 where
  pub people : List ℕ
  pub cells : List ℕ
  pub mask : List ℕ

-- a list with a number put at each of the n places of an area; the elements past them stay
abbrev pub Laid : (n : ℕ) → (put : ℕ → ℕ) → (before after : List ℕ) → Type 0
Laid n put before after = (i : ℕ) → get_or after i 0 ≡ cond (ltb i n) (put i) (get_or before i 0)

-- n places are laid into the three lists: `at i` is what stands at place i
pub record PlacesLaid (at : ℕ → Place) (n always : ℕ) (edges : List ℤ) (before after : Lists) : Type 0 where
  pub people : Laid n (λ i. people_at (at i)) before.people after.people
  pub cells : Laid n (λ i. flag (is_cell (at i))) before.cells after.cells
  pub mask : Laid n (λ i. flag (is_covered always edges (at i))) before.mask after.mask

-- what `lay_out` does to the three lists, for rows that are read
abbrev pub LaidOut : Read (List (List Place)) → (columns rows always : ℕ) → (edges : List ℤ) → (before after : Lists) → Type 0
LaidOut reading columns rows always edges before after =
    PlacesLaid (place_of (grid_of reading) columns) (rows * columns) always edges before after
