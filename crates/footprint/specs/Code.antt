-- How the code goes about a footprint: what its inner functions come to. The contract of `footprint` cites none of this. Assumes nothing.
use Rattle.std.specs.Prelude.{ℕ, ◌+◌, ◌≤◌, ◌<◌, ◌≡◌, Option, Some, None, Result, Ok, Err, List, [], ◌∷◌, length, get_or}
use Rattle.units.specs.declared.Weighted.{Weighted}
use Rattle.map.specs.Format.{Area, read_rows}
use Rattle.map.specs.Answers.{summary}
use Rattle.map.specs.Accepted.{AreaHolds}
use Rattle.map.specs.declared.Area as handed
use Rattle.register.specs.declared.Licence.{Licence}
use Rattle.coverage.specs.Cover.{holding_of}
use Rattle.coverage.specs.Blocks.{size}
use Rattle.coverage.specs.Answers.{no_area}
use Rattle.search.specs.declared.Kind.{Kind}
use Rattle.search.specs.declared.Kind.TheVariants.{Exact, RoundedUp, OnePart}
use Rattle.proposal.specs.declared.ProposalRefusal.{ProposalRefusal}
use Rattle.proposal.specs.declared.ProposalRefusal.TheVariants as proposing
use Rattle.proposal.specs.Answer.{Given}
use Rattle.places.specs.Places.{IsGood}
use Rattle.rounds.specs.declared.MakeRefusal.{MakeRefusal}
use Rattle.rounds.specs.declared.MakeRefusal.TheVariants as rounding
use Rattle.footprint.specs.declared.FootprintRefusal.{FootprintRefusal}
use Rattle.footprint.specs.declared.FootprintRefusal.TheVariants.{Map, TooMany, NotOnePart, TableShort}
use Rattle.footprint.specs.Footprint.{Footprint, part_area, covered_cells, Shared, no_share, shares, shared_by, footprint_of}
use Rattle.footprint.specs.Promises.{FootprintDone}

-- ---- the area that gets a share

-- `shared_in` by the area's place and not its number, the first area being at place k
abbrev pub shared_from : (k : ℕ) → List Given → Shared
shared_from k [] = no_share
shared_from k (g ∷ areas) = shared_by k g.gets (shared_from (k + 1) areas)

-- the place of the area that gets a share, and the share
abbrev pub shared_means : Option (ℕ × Weighted) → Shared
shared_means None = no_share
shared_means (Some found) = shares found.0 found.1.0

-- the place is one of n
abbrev pub place_within : (n : ℕ) → Option (ℕ × Weighted) → Type 0
place_within n None = Unit {0}
place_within n (Some found) = found.0 < n

-- of a proposal of kind 3: the area of the map at the place that gets the share
abbrev pub part_at : List handed.Area → Shared → Result (handed.Area × Weighted) FootprintRefusal
part_at stands no_share = Err NotOnePart
part_at stands (shares place share) = Ok (get_or stands place no_area, record { 0 = share })

-- by the proposal's kind
abbrev pub part_by : List handed.Area → Kind → Shared → Result (handed.Area × Weighted) FootprintRefusal
part_by stands Exact s = Err NotOnePart
part_by stands RoundedUp s = Err NotOnePart
part_by stands OnePart s = part_at stands s

-- a proposal that is refused
abbrev pub refused_proposal : ProposalRefusal → FootprintRefusal
refused_proposal (proposing.Map f) = Map f
refused_proposal proposing.TooMany = TooMany

-- ---- its footprint

-- the rows of an area that is handed out are read from its start, and it has at most 128 rows and columns
pub record Readable (map : List ℕ) (a : handed.Area) : Type 0 where
  pub rows : a.rows ≤ 128
  pub columns : a.columns ≤ 128
  pub reads : IsGood (read_rows map a.columns a.rows a.start)

-- the mask and the table before a call and after it
pub record Buffers : Type 0 where
  pub mask : List ℕ
  pub after : List ℕ
  pub table : List ℕ
  pub entries : List ℕ

-- what comes of a footprint, its buffers being lent
abbrev pub Comes : (ℕ → ℕ → Footprint) → Result ℕ FootprintRefusal → Buffers → Type 0
Comes o r b = FootprintDone (o (length b.mask) (length b.table)) r b.mask b.after b.table b.entries

-- "share, is above 0 and below the M of the partial area"
abbrev pub Fits : List Licence → (share : ℕ) → Area → Type 0
Fits licences share a = (0 < share) × (share < size (holding_of licences a))

-- of an area that is handed out: for the area of the map that it stands for
abbrev pub Outlines : (map : List ℕ) → List Licence → handed.Area → (share : ℕ) → Result ℕ FootprintRefusal → Buffers → Type 0
Outlines map licences b share r buffers =
    (a : Area) → b ≡ summary a → AreaHolds map a → Fits licences share a
    → Comes (footprint_of a.head.number (part_area a) share (covered_cells licences a)) r buffers

-- what the rounds refuse, told by the footprint's refusal
abbrev pub refused_rounds : MakeRefusal → FootprintRefusal
refused_rounds (rounding.TableShort needed) = TableShort needed
refused_rounds rounding.Outside = NotOnePart

-- the answer of the rounds, told by the footprint's
abbrev pub told_by : (number : ℕ) → Result (Unit {0}) MakeRefusal → Result ℕ FootprintRefusal
told_by number (Ok done) = Ok number
told_by number (Err m) = Err (refused_rounds m)
