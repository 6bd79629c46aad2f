-- The boxes that cover a point. Assumes nothing.
use Rattle.std.specs.Prelude.{ℕ, ◌+◌, ◌*◌, ◌/◌, ◌≤◌, ◌<◌, List, Bool, ◌&&◌, ℤ, pos, length, get_or, take}
use Rattle.std.specs.Int.Signed.{le_z, lt_z}
use Rattle.lists.specs.Sums.{flag, count, sum_to}
use Rattle.boxes.specs.declared.Boxes.{Boxes}

-- "Coverage and blocks": south ≤ latitude < north and west ≤ longitude < east
abbrev pub box_covers : (south north west east latitude longitude : ℤ) → Bool
box_covers south north west east latitude longitude =
    le_z south latitude && lt_z latitude north && le_z west longitude && lt_z longitude east

-- the edges of boxes: their souths, then the norths, the wests and the easts
abbrev pub edges_of : Boxes → List ℤ
edges_of boxes = take (4 * boxes.count) boxes.edges

-- box i of n covers a point: the edges are the n souths, then the n norths, the n wests and the n easts
abbrev pub box_at : List ℤ → (latitude longitude : ℤ) → (n i : ℕ) → Bool
box_at edges latitude longitude n i =
    box_covers (get_or edges i (pos 0)) (get_or edges (n + i) (pos 0)) (get_or edges (2 * n + i) (pos 0)) (get_or edges (3 * n + i) (pos 0))
    latitude longitude

-- how many boxes cover a point, of a quarter as many as there are edges
unfoldable pub boxes_over : List ℤ → (latitude longitude : ℤ) → ℕ
boxes_over edges latitude longitude = count (box_at edges latitude longitude (length edges / 4)) (length edges / 4)

-- document 02, Paper 4: "A licence now carries its width in MHz": the widths of the boxes that cover a point, added
unfoldable pub width_over : List ℤ → (widths : List ℕ) → (latitude longitude : ℤ) → ℕ
width_over edges widths latitude longitude =
    sum_to (λ i. get_or widths i 0 * flag (box_at edges latitude longitude (length edges / 4) i)) (length edges / 4)

-- the widths of the boxes are at most what a byte holds, so that sums over them fit
abbrev pub Narrow : List ℤ → (widths : List ℕ) → Type 0
Narrow edges widths = (i : ℕ) → i < length edges / 4 → get_or widths i 0 ≤ 255
