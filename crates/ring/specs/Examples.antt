-- Rings evaluated on small grids. A wrong row is refused. Assumes nothing.
use Rattle.std.specs.Prelude.{ℕ, ◌≡◌, refl, Bool, true, false, List, [], ◌∷◌, map, length}
use Rattle.lists.specs.Sums.{flag, some_below}
use Rattle.lists.specs.Filters.{up_to}
use Rattle.ring.specs.Ring.{above, below, left, right, some_side, all_sides, around, outside, edge, ring, shown}

-- growing or shrinking, the columns, the cells, the set, and its ring
pub record Row : Type 0 where
  pub grow : Bool
  pub columns : ℕ
  pub cells : List ℕ
  pub set : List ℕ
  pub comes : List ℕ

abbrev row : (grow : Bool) (columns : ℕ) (cells set comes : List ℕ) → Row
row grow columns cells set comes = record { grow = grow; columns = columns; cells = cells; set = set; comes = comes }

abbrev pub rows : List Row
rows =
    -- one row, a set of columns 2 and 3
    row true 5 (1 ∷ 1 ∷ 1 ∷ 1 ∷ 1 ∷ []) (0 ∷ 0 ∷ 1 ∷ 1 ∷ 0 ∷ []) (0 ∷ 1 ∷ 0 ∷ 0 ∷ 1 ∷ []) ∷
    row false 5 (1 ∷ 1 ∷ 1 ∷ 1 ∷ 1 ∷ []) (0 ∷ 0 ∷ 1 ∷ 1 ∷ 0 ∷ []) (0 ∷ 0 ∷ 1 ∷ 1 ∷ 0 ∷ []) ∷
    -- the last column does not neighbour the next row's first
    row true 3
    (1 ∷ 1 ∷ 1 ∷
    1 ∷ 1 ∷ 1 ∷ [])
    (0 ∷ 0 ∷ 1 ∷
    0 ∷ 0 ∷ 0 ∷ [])
    (0 ∷ 1 ∷ 0 ∷
    0 ∷ 0 ∷ 1 ∷ []) ∷
    -- a place without a cell does not join
    row true 3
    (1 ∷ 0 ∷ 1 ∷
    1 ∷ 1 ∷ 1 ∷ [])
    (0 ∷ 0 ∷ 1 ∷
    0 ∷ 0 ∷ 0 ∷ [])
    (0 ∷ 0 ∷ 0 ∷
    0 ∷ 0 ∷ 1 ∷ []) ∷
    -- an island: no cell outside the set neighbours it, so all cells outside it
    row true 4 (1 ∷ 0 ∷ 1 ∷ 1 ∷ []) (1 ∷ 0 ∷ 0 ∷ 0 ∷ []) (0 ∷ 0 ∷ 1 ∷ 1 ∷ []) ∷
    row true 2 (1 ∷ 1 ∷ []) (0 ∷ 0 ∷ []) (1 ∷ 1 ∷ []) ∷
    -- shrinking: a side beyond the grid, and a side on a place without a cell
    row false 3
    (1 ∷ 1 ∷ 1 ∷
    1 ∷ 1 ∷ 1 ∷
    1 ∷ 1 ∷ 1 ∷ [])
    (1 ∷ 1 ∷ 1 ∷
    1 ∷ 1 ∷ 1 ∷
    1 ∷ 1 ∷ 1 ∷ [])
    (1 ∷ 1 ∷ 1 ∷
    1 ∷ 0 ∷ 1 ∷
    1 ∷ 1 ∷ 1 ∷ []) ∷
    row false 1 (1 ∷ []) (1 ∷ []) (1 ∷ []) ∷ []

abbrev come : Row → List ℕ
come r = map (λ i. flag (ring r.grow (shown r.cells) (shown r.set) (length r.cells) r.columns i)) (up_to (length r.cells))

pub rows-hold : map come rows ≡ map (λ r. r.comes) rows
unfolding ring around outside edge some_side all_sides above below left right some_below up_to
rows-hold = refl
