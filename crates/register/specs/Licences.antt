-- Document 01, "The register": well-formed licences, and the licences in force; document 02, Paper 4: their widths. Assumes nothing.
use Rattle.std.specs.Prelude.{ℕ, ◌-◌, Bool, cond, not, ◌&&◌, List, [], ◌∷◌, leb, eqb, pos, Option, Some, None}
use Rattle.std.specs.Int.Signed.{lt_z}
use Rattle.lists.specs.Sums.{any}
use Rattle.units.specs.Coordinates.{is_latitude, is_longitude}
use Rattle.register.specs.declared.GeoBox.{GeoBox}
use Rattle.register.specs.declared.Ground.{Ground}
use Rattle.register.specs.declared.Ground.TheVariants.{Area, Box}
use Rattle.register.specs.declared.Licence.{Licence}
use Rattle.register.specs.declared.FlatLicence.{FlatLicence}

-- "The register": a box with south < north and west < east, edges in the ranges above
unfoldable pub box_formed : GeoBox → Bool
box_formed b =
    lt_z b.south b.north && lt_z b.west b.east &&
    is_latitude b.south && is_latitude b.north && is_longitude b.west && is_longitude b.east

-- "The register": a ground, either a PEA number 1 to 416 or a box
unfoldable pub ground_formed : Ground → Bool
ground_formed (Area n) = leb 1 n && leb n 416
ground_formed (Box b) = box_formed b

-- document 02, Paper 4: "its width in MHz, 1 to 50"
unfoldable pub width_formed : ℕ → Bool
width_formed w = leb 1 w && leb w 50

-- "The register": a licence, with a call sign that is not 0 and a ground; refusal 6 is for any other. Document 02, Paper 4: "A width
-- outside 1 to 50 belongs to the ill-formed grounds of number 6"
unfoldable pub well_formed : Licence → Bool
well_formed l = not (eqb l.call_sign 0) && ground_formed l.ground && width_formed l.width

-- document 02, Paper 4: "a licence granted without one counts as 50"
abbrev pub full_width : ℕ
full_width = 50

abbrev pub full_licence : (sign : ℕ) → (ground : Ground) → Licence
full_licence s g = record { call_sign = s; ground = g; width = full_width }

-- ---- how a licence is laid out at a place of the register

-- the ground of a place by its kind: 0 is an area, 1 a box, and any other kind is ill formed and covers nothing, as area 0 does
unfoldable pub ground_of : FlatLicence → Ground
ground_of p =
    cond (eqb p.kind 0) (Area p.area)
    (cond (eqb p.kind 1) (Box (record { south = p.south; north = p.north; west = p.west; east = p.east })) (Area 0))

-- the licence of a place at a width, whatever width the place keeps
abbrev pub licence_at_width : FlatLicence → ℕ → Licence
licence_at_width p w = record { call_sign = p.call_sign; ground = ground_of p; width = w }

-- the licence that stands at a place, which keeps how many MHz it is narrower than 50: one that was kept before document 02, Paper 4,
-- with 0 there, is 50 MHz wide, and none is wider
abbrev pub licence_of : FlatLicence → Licence
licence_of p = licence_at_width p (full_width - p.narrower_by)

-- the place by its call sign, by how many MHz it is narrower, and by its ground
abbrev pub flat_on : ℕ → ℕ → Ground → FlatLicence
flat_on s m (Area n) =
    record { call_sign = s; area = n; kind = 0; narrower_by = m; south = pos 0; north = pos 0; west = pos 0; east = pos 0 }
flat_on s m (Box b) = record {
  call_sign = s;
  area = 0;
  kind = 1;
  narrower_by = m;
  south = b.south;
  north = b.north;
  west = b.west;
  east = b.east;
}

-- the place that a licence takes: what is not of its ground is 0
unfoldable pub flat_of : Licence → FlatLicence
flat_of l = flat_on l.call_sign (full_width - l.width) l.ground

-- "The register": what stands at a free place, call sign 0
abbrev pub free_place : FlatLicence
free_place = record { call_sign = 0; area = 0; kind = 0; narrower_by = 0; south = pos 0; north = pos 0; west = pos 0; east = pos 0 }

-- "The list of demand 3": the line has the call sign
unfoldable pub has_sign : ℕ → Licence → Bool
has_sign s l = eqb l.call_sign s

-- "The register": the licence in force that stands at a place, none where its call sign is 0
unfoldable pub standing : FlatLicence → Option Licence
standing p = cond (has_sign 0 (licence_of p)) None (Some (licence_of p))

-- "The register": the licences in force are the places whose call sign is not 0
abbrev pub in_force : List FlatLicence → List Licence
in_force [] = []
in_force (p ∷ places) = cond (has_sign 0 (licence_of p)) (in_force places) (licence_of p ∷ in_force places)

-- "The list of demand 3": some line has the call sign
abbrev pub held : ℕ → List Licence → Bool
held s lines = any (has_sign s) lines

-- "The list of demand 3": the lines, with what has the call sign struck
abbrev pub strike : ℕ → List Licence → List Licence
strike s [] = []
strike s (l ∷ lines) = cond (has_sign s l) (strike s lines) (l ∷ strike s lines)

-- "The list of demand 3": what a cancellation strikes, the lines that have the call sign
abbrev pub struck : ℕ → List Licence → List Licence
struck s [] = []
struck s (l ∷ lines) = cond (has_sign s l) (l ∷ struck s lines) (struck s lines)

-- "The register": the places, with those of the call sign free
abbrev pub release : ℕ → List FlatLicence → List FlatLicence
release s [] = []
release s (p ∷ places) = cond (has_sign s (licence_of p)) free_place p ∷ release s places
