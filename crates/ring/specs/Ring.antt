-- Document 01, "The footprint": neighbours and rings. The places of a grid are numbered by row, then column, from 0; n places stand in
-- rows of so many columns. A set of places is a test. Assumes nothing.
use Rattle.std.specs.Prelude.{ℕ, ◌+◌, ◌-◌, ◌*◌, ◌%◌, Bool, true, false, cond, not, ◌&&◌, ◌||◌, List, get_or, leb, ltb, eqb}
use Rattle.lists.specs.Sums.{some_below}

abbrev pub Places : Type 0
Places = ℕ → Bool

-- "Neighbours share a side": whether the place on a side of place i is in a set; "a place .. beyond the grid is not"
unfoldable pub above : Places → (columns i : ℕ) → Bool
above f columns i = leb columns i && f (i - columns)

unfoldable pub below : Places → (n columns i : ℕ) → Bool
below f n columns i = ltb (i + columns) n && f (i + columns)

unfoldable pub left : Places → (columns i : ℕ) → Bool
left f columns i = not (eqb (i % columns) 0) && f (i - 1)

unfoldable pub right : Places → (columns i : ℕ) → Bool
right f columns i = not (eqb ((i + 1) % columns) 0) && f (i + 1)

-- the place neighbours the set, and all its sides are on the set
unfoldable pub some_side : Places → (n columns i : ℕ) → Bool
some_side f n columns i = above f columns i || (below f n columns i || (left f columns i || right f columns i))

unfoldable pub all_sides : Places → (n columns i : ℕ) → Bool
all_sides f n columns i = above f columns i && (below f n columns i && (left f columns i && right f columns i))

-- "the cells outside F that neighbour F"
unfoldable pub around : (cells f : Places) → (n columns : ℕ) → Places
around cells f n columns i = ltb i n && (cells i && (not (f i) && some_side f n columns i))

-- "all cells outside F"
unfoldable pub outside : (cells f : Places) → (n : ℕ) → Places
outside cells f n i = ltb i n && (cells i && not (f i))

-- "the cells of F with a side on a place not in F"
unfoldable pub edge : (f : Places) → (n columns : ℕ) → Places
edge f n columns i = ltb i n && (f i && not (all_sides f n columns i))

-- B while F grows: "the cells outside F that neighbour F, or, if there are none, all cells outside F"; and while it shrinks
unfoldable pub ring : (grow : Bool) → (cells f : Places) → (n columns : ℕ) → Places
ring true cells f n columns i = cond (some_below (around cells f n columns) n) (around cells f n columns i) (outside cells f n i)
ring false cells f n columns i = edge f n columns i

-- ---- in a mask

-- "1 in the footprint, else 0": the set that a mask shows
abbrev pub shown : List ℕ → Places
shown mask i = eqb (get_or mask i 0) 1

-- the set that a mask shows while its ring is marked with 2: growing, the ring is outside the set, shrinking, it is in the set
unfoldable pub seen : (grow : Bool) → List ℕ → Places
seen true mask i = eqb (get_or mask i 0) 1
seen false mask i = not (eqb (get_or mask i 0) 0)

-- a byte after its place is marked, or not
abbrev pub marked : Bool → ℕ → ℕ
marked true b = 2
marked false b = b

-- a byte of the area after the marks are settled: a 2 becomes `to`
abbrev pub settled : (to n i b : ℕ) → ℕ
settled to n i b = cond (ltb i n && eqb b 2) to b

-- a byte of the area after it is wiped
abbrev pub wiped : (n i b : ℕ) → ℕ
wiped n i b = cond (ltb i n) 0 b

-- rows and columns for which a mask of so many bytes has a byte for each place
unfoldable pub fits : (rows columns bytes : ℕ) → Bool
fits rows columns bytes = leb 1 columns && leb columns 256 && leb rows 256 && leb (rows * columns) bytes
