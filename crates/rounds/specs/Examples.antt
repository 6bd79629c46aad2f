-- Footprints evaluated on small areas. A wrong row is refused. Assumes nothing.
use Rattle.std.specs.Prelude.{ℕ, ◌/◌, ◌≡◌, refl, List, [], ◌∷◌, map, length, get_or}
use Rattle.lists.specs.Sums.{flag, some_below, sum_below}
use Rattle.lists.specs.Filters.{filter, up_to, foremost, first_or}
use Rattle.subset.specs.Sets.{set_number, total_of, sets, taken_of}
use Rattle.subset.specs.Rule.{smallest, greatest}
use Rattle.ring.specs.Ring.{above, below, left, right, some_side, all_sides, around, outside, edge, ring, shown}
use Rattle.rounds.specs.Footprint.{PartArea, value, goes_on, rounds, growing, last_set, overshoots, last_ring, outer, slack, ring_cells}
use Rattle.rounds.specs.Footprint.{remains, keeps, left_out, footprint, needed}

-- the columns, the cells, the people, the set F and the people of the share; then the entries needed and the footprint's mask
pub record Row : Type 0 where
  pub columns : ℕ
  pub cells : List ℕ
  pub people : List ℕ
  pub set : List ℕ
  pub share : ℕ
  pub needs : ℕ
  pub comes : List ℕ

abbrev row : (columns : ℕ) (cells people set : List ℕ) (share needs : ℕ) (comes : List ℕ) → Row
row columns cells people set share needs comes =
    record { columns = columns; cells = cells; people = people; set = set; share = share; needs = needs; comes = comes }

abbrev pub rows : List Row
rows =
    -- equality at once, with nothing needed
    row 5 (1 ∷ 1 ∷ 1 ∷ 1 ∷ 1 ∷ []) (5 ∷ 0 ∷ 4 ∷ 3 ∷ 8 ∷ []) (0 ∷ 0 ∷ 1 ∷ 1 ∷ 0 ∷ [])
    700 0 (0 ∷ 0 ∷ 1 ∷ 1 ∷ 0 ∷ []) ∷
    -- growing: the ring of columns 1 and 4 overshoots, and equality after one round ends it
    row 5 (1 ∷ 1 ∷ 1 ∷ 1 ∷ 1 ∷ []) (5 ∷ 0 ∷ 4 ∷ 3 ∷ 8 ∷ []) (0 ∷ 0 ∷ 1 ∷ 1 ∷ 0 ∷ [])
    1050 5 (0 ∷ 1 ∷ 1 ∷ 1 ∷ 1 ∷ []) ∷
    row 5 (1 ∷ 1 ∷ 1 ∷ 1 ∷ 1 ∷ []) (5 ∷ 0 ∷ 4 ∷ 3 ∷ 8 ∷ []) (0 ∷ 0 ∷ 1 ∷ 1 ∷ 0 ∷ [])
    1500 0 (0 ∷ 1 ∷ 1 ∷ 1 ∷ 1 ∷ []) ∷
    -- shrinking: both cells are the last ring, and 3 of 7 people may go
    row 5 (1 ∷ 1 ∷ 1 ∷ 1 ∷ 1 ∷ []) (5 ∷ 0 ∷ 4 ∷ 3 ∷ 8 ∷ []) (0 ∷ 0 ∷ 1 ∷ 1 ∷ 0 ∷ [])
    350 4 (0 ∷ 0 ∷ 1 ∷ 0 ∷ 0 ∷ []) ∷
    -- the slack is rounded down: 350 of weight 1 leave room for 3 people
    row 2 (1 ∷ 1 ∷ []) (4 ∷ 3 ∷ []) (1 ∷ 1 ∷ []) 350 4 (1 ∷ 0 ∷ []) ∷
    -- a tie among 2 + 4, 6, 5 + 1: the smallest set number leaves out the cells of 1 and 5 people
    row 5 (1 ∷ 1 ∷ 1 ∷ 1 ∷ 1 ∷ []) (1 ∷ 5 ∷ 6 ∷ 2 ∷ 4 ∷ []) (0 ∷ 0 ∷ 0 ∷ 0 ∷ 0 ∷ [])
    1200 7 (0 ∷ 0 ∷ 1 ∷ 1 ∷ 1 ∷ []) ∷
    -- an island and no neighbour: all cells outside F are the ring
    row 4 (1 ∷ 0 ∷ 1 ∷ 1 ∷ []) (2 ∷ 0 ∷ 3 ∷ 4 ∷ []) (1 ∷ 0 ∷ 0 ∷ 0 ∷ []) 500 5 (1 ∷ 0 ∷ 1 ∷ 0 ∷ []) ∷
    -- an area of one cell
    row 1 (1 ∷ []) (9 ∷ []) (1 ∷ []) 450 5 (1 ∷ []) ∷ []

abbrev area : Row → PartArea
area r = record {
  rows = length r.cells / r.columns;
  columns = r.columns;
  weight = 1;
  cells = shown r.cells;
  people = λ i. get_or r.people i 0;
}

abbrev come : Row → List ℕ
come r =
    needed (area r) r.share (shown r.set)
    ∷ map (λ i. flag (footprint (area r) r.share (shown r.set) i)) (up_to (length r.cells))

pub rows-hold : map come rows ≡ map (λ r. r.needs ∷ r.comes) rows
unfolding value goes_on rounds growing last_set overshoots last_ring outer slack ring_cells remains keeps left_out footprint needed
    ring around outside edge some_side all_sides above below left right some_below sum_below
    up_to filter foremost first_or smallest greatest sets taken_of set_number total_of
rows-hold = refl
