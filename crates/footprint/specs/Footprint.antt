-- Document 01, "The footprint", over a map and the licences in force: the partial area, F and the share, and what comes of a call.
-- Everything here computes. Assumes nothing.
use Rattle.std.specs.Prelude.{ℕ, Bool, false, cond, List, [], ◌∷◌, ltb, eqb}
use Rattle.lists.specs.Sums.{any}
use Rattle.map.specs.Reading.{Read, bad, good}
use Rattle.map.specs.Format.{Place, gap, cell, people_at, Area}
use Rattle.map.specs.Answers.{Located, none, some, locate}
use Rattle.register.specs.declared.Licence.{Licence}
use Rattle.coverage.specs.Cover.{covers, holdings_of}
use Rattle.proposal.specs.Answer.{Gets, gets_nothing, gets_whole, gets_rounded_up, gets_share, Given, Proposal, proposal}
use Rattle.places.specs.Places.{place_of, is_cell}
use Rattle.ring.specs.Ring.{Places}
use Rattle.rounds.specs.Footprint.{PartArea, places, footprint, needed}

-- ---- the partial area and F

-- an area of the map by its places
abbrev pub part_area : Area → PartArea
part_area a = record {
  rows = a.head.rows;
  columns = a.head.columns;
  weight = a.head.weight;
  cells = λ i. is_cell (place_of a.grid a.head.columns i);
  people = λ i. people_at (place_of a.grid a.head.columns i);
}

-- a place of the area with a number has a cell that some licence covers
abbrev pub covered_at : List Licence → (number : ℕ) → Place → Bool
covered_at licences number gap = false
covered_at licences number (cell c) = any (λ l. covers l.ground number c) licences

-- "F is the set of cells of the partial area that a licence in force covers"
abbrev pub covered_cells : List Licence → Area → Places
covered_cells licences a i = covered_at licences a.head.number (place_of a.grid a.head.columns i)

-- ---- "It is for kind 3, made with the same draw"

-- the number of the area that gets a share, and the share
pub data Shared : Type 0 where
  no_share : Shared
  shares : (number share : ℕ) → Shared

abbrev pub shared_by : (number : ℕ) → Gets → (later : Shared) → Shared
shared_by number gets_nothing later = later
shared_by number gets_whole later = later
shared_by number gets_rounded_up later = later
shared_by number (gets_share share) later = shares number share

abbrev pub shared_in : List Given → Shared
shared_in [] = no_share
shared_in (g ∷ areas) = shared_by g.number g.gets (shared_in areas)

-- ---- what comes of a call

pub data Footprint : Type 0 where
  -- refused by a number other than 8
  refused : (number : ℕ) → Footprint
  -- refused by 8: the area's places, and the entries needed
  short : (places needed : ℕ) → Footprint
  -- made: the area's number and places, the entries of the table that are used, and the cells of the footprint
  made : (number places used : ℕ) → (cells : Places) → Footprint

-- "7: mask shorter than rows × columns", then "8: table too short": of an area, its share and F, the bytes lent and the entries lent
unfoldable pub footprint_of : (number : ℕ) → PartArea → (share : ℕ) → (f : Places) → (mask table : ℕ) → Footprint
footprint_of number a share f mask table =
    cond (ltb mask (places a)) (refused 7)
    (cond (ltb table (needed a share f)) (short (places a) (needed a share f))
    (made number (places a) (needed a share f) (footprint a share f)))

-- the area with the number; "13" stands in where there is none, which no proposal of kind 3 comes to (proofs/ShareLaws, `one-share`)
abbrev pub in_located : List Licence → (share mask table : ℕ) → Located → Footprint
in_located licences share mask table none = refused 13
in_located licences share mask table (some a) = footprint_of a.head.number (part_area a) share (covered_cells licences a) mask table

abbrev pub in_shared : List Area → List Licence → (mask table : ℕ) → Shared → Footprint
in_shared areas licences mask table no_share = refused 13
in_shared areas licences mask table (shares number share) = in_located licences share mask table (locate number areas)

-- "Footprint: .. 12, 13, 7, 8": by the proposal
unfoldable pub footprint_by : List Area → List Licence → (mask table : ℕ) → Proposal → Footprint
footprint_by areas licences mask table p =
    cond (eqb p.refused 0)
    (cond (eqb p.kind 3) (in_shared areas licences mask table (shared_in p.areas)) (refused 13))
    (refused p.refused)

-- "Footprint: 1 to 5, 12, 13, 7, 8": over a map's bytes, the licences in force, a draw, the bytes lent and the entries lent
unfoldable pub footprint_on : Read (List Area) → List Licence → (draw mask table : ℕ) → Footprint
footprint_on (bad n) licences draw mask table = refused n
footprint_on (good areas e) licences draw mask table =
    footprint_by areas licences mask table (proposal (holdings_of licences areas) draw)
