-- Document 01, "Coverage and blocks": what a sum over an area's cells reads of the licences in force: how many have the area as their
-- ground, and the boxes of the others; document 02, Paper 4: the widths of both. Assumes nothing.
use Rattle.std.specs.Prelude.{ℕ, ◌+◌, ◌*◌, ◌-◌, ◌/◌, ◌≤◌, ◌<◌, ◌≡◌, Bool, true, false, cond, List, eqb, ℤ, pos, length, get_or, Option, Some, None}
use Rattle.std.specs.Option.{option_and_then, option_eq}
use Rattle.register.specs.declared.GeoBox.{GeoBox}
use Rattle.register.specs.declared.Ground.{Ground}
use Rattle.register.specs.declared.Ground.TheVariants.{Area, Box}
use Rattle.register.specs.declared.Licence.{Licence}
use Rattle.register.specs.declared.FlatLicence.{FlatLicence}
use Rattle.lists.specs.Sums.{total, flag}
use Rattle.register.specs.declared.Naming.{Naming}
use Rattle.boxes.specs.declared.Boxes.{Boxes}
use Rattle.register.specs.Licences.{licence_of, free_place, has_sign, standing, in_force}
use Rattle.register.specs.Sums.{passes_at}

-- "A PEA ground covers every cell of that area": the ground is the area of a number
abbrev pub is_area : ℕ → Ground → Bool
is_area number (Area n) = eqb n number
is_area number (Box b) = false

-- the licence's ground is the area of a number
abbrev pub names : ℕ → Licence → Bool
names number l = is_area number l.ground

-- document 02, Paper 4: "the sum of width × people covered": what `naming` counts and adds of the licences that cover every cell
pub record NamingDone (number : ℕ) (places : List FlatLicence) (r : Naming) : Type 0 where
  pub licences : r.licences ≡ total (λ l. flag (names number l)) (in_force places)
  pub width : r.width ≡ total (λ l. l.width * flag (names number l)) (in_force places)
  pub few : r.licences ≤ 64
  pub most : r.width ≤ 3200

-- the ground is a box that passes a test
abbrev pub is_box : (GeoBox → Bool) → Ground → Bool
is_box test (Area n) = false
is_box test (Box b) = test b

-- the licence's ground is a box
abbrev pub has_box : Licence → Bool
has_box l = is_box (λ _. true) l.ground

-- "south ≤ latitude < north" holds of no point: a box that covers nothing
abbrev pub no_box : GeoBox
no_box = record { south = pos 0; north = pos 0; west = pos 0; east = pos 0 }

abbrev pub box_of : Ground → GeoBox
box_of (Area n) = no_box
box_of (Box b) = b

-- the box of what stands at a place, one that covers nothing where no box is in force
unfoldable pub place_box : Licence → GeoBox
place_box l = cond (has_sign 0 l) no_box (box_of l.ground)

-- the area of the licence in force that stands at a place, none where its ground is no area
abbrev pub ground_area : Ground → Option ℕ
ground_area (Area n) = Some n
ground_area (Box b) = None

abbrev pub area_at : FlatLicence → Option ℕ
area_at p = option_and_then (λ l. ground_area l.ground) (standing p)

-- a licence in force with the area of a number as its ground stands at a place
abbrev pub names_at : ℕ → FlatLicence → Bool
names_at number p = option_eq eqb (area_at p) (Some number)

-- the box of the licence in force that stands at a place, none where its ground is no box
abbrev pub ground_box : Ground → Option GeoBox
ground_box (Area n) = None
ground_box (Box b) = Some b

abbrev pub box_at : FlatLicence → Option GeoBox
box_at p = option_and_then (λ l. ground_box l.ground) (standing p)

-- box i of n: the edges are the n souths, then the n norths, the n wests and the n easts
abbrev pub box_from : List ℤ → (n i : ℕ) → GeoBox
box_from edges n i = record {
  south = get_or edges i (pos 0);
  north = get_or edges (n + i) (pos 0);
  west = get_or edges (2 * n + i) (pos 0);
  east = get_or edges (3 * n + i) (pos 0);
}

-- one more than the last place with a box in force, 0 where no place has one
pub record LastBox (places : List FlatLicence) (n : ℕ) : Type 0 where
  pub few : n ≤ 64
  pub past : (i : ℕ) → n ≤ i → passes_at has_box (licence_of (get_or places i free_place)) ≡ false
  pub last : 0 < n → passes_at has_box (licence_of (get_or places (n - 1) free_place)) ≡ true

-- so many places as there are up to that one, and as many more as make up a multiple of 8
pub record PaddedTo8 (places : List FlatLicence) (n : ℕ) : Type 0 where
  pub last : ℕ
  pub found : LastBox places last
  pub padded : n ≡ (last + 7) / 8 * 8
  pub few : n ≤ 64

-- the edges of the boxes at the first n places, and 0 past them
pub record EdgesDone (places : List FlatLicence) (n : ℕ) (edges : List ℤ) : Type 0 where
  pub size : length edges ≡ 256
  pub each : (i : ℕ) → i < n → box_from edges n i ≡ place_box (licence_of (get_or places i free_place))
  pub rest : (k : ℕ) → 4 * n ≤ k → get_or edges k (pos 0) ≡ pos 0

-- document 02, Paper 4: the widths of what stands at the first n places, and 0 past them
pub record WidthsDone (places : List FlatLicence) (n : ℕ) (widths : List ℕ) : Type 0 where
  pub size : length widths ≡ 64
  pub each : (i : ℕ) → i < n → get_or widths i 0 ≡ (licence_of (get_or places i free_place)).width
  pub rest : (i : ℕ) → n ≤ i → get_or widths i 0 ≡ 0

-- what `boxes` hands out of the places
pub record BoxesDone (places : List FlatLicence) (r : Boxes) : Type 0 where
  pub counts : PaddedTo8 places r.count
  pub edges : EdgesDone places r.count r.edges
  pub widths : WidthsDone places r.count r.widths
