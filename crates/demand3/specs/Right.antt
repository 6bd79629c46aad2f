-- Document 01, "The list of demand 3": what is claimed of a list of calls, through any interface. Assumes nothing.
use Rattle.std.specs.Prelude.{ℕ, ◌≤◌, ◌<◌, ◌≡◌, cond, List, [], ◌∷◌, ◌++◌, map, ltb, length, drop, replicate}
use Rattle.map.specs.Reading.{Read, good}
use Rattle.map.specs.Format.{Area, read_map}
use Rattle.map.specs.Answers.{some, locate}
use Rattle.register.specs.declared.Licence.{Licence}
use Rattle.register.specs.declared.Register.{Register}
use Rattle.register.specs.Licences.{in_force}
use Rattle.register.specs.Rules.{limit, grant_rule, cancel_rule}
use Rattle.register.specs.Sums.{SameLicences, OnceEach}
use Rattle.coverage.specs.Cover.{sum_of_cells, holdings_of}
use Rattle.proposal.specs.Choices.{partials}
use Rattle.proposal.specs.Answer.{Proposal, AreaCells, cells_shown, proposal, proposal_on}
use Rattle.proposal.specs.Demand as demand
use Rattle.ring.specs.Ring.{shown}
use Rattle.rounds.specs.Demand as outline
use Rattle.rounds.specs.Footprint.{places, needed}
use Rattle.footprint.specs.Footprint.{part_area, covered_cells, shares, shared_in, footprint_by, footprint_on}
use Rattle.footprint.specs.Promises.{Reply, Leaves}
use Rattle.demand3.specs.Calls.{licence, Call, grant, cancel, propose, footprint, Outcome}
use Rattle.demand3.specs.Ledger.{lines_after, ledger}
use Rattle.demand3.specs.Interface.{Interface, Made, Saying, calls, number_of, Run, done, step}

-- document 02, Paper 1: "the sum of cells for each map area", over the ledger's lines
abbrev pub cells_of : List Licence → Area → AreaCells
cells_of lines a = record { number = a.head.number; cells = sum_of_cells lines a }

-- "In a list, the licences in force are the ledger's lines before the call; c, S, T, share .. come from them": what is claimed of a
-- proposal over a map with these areas
pub record ProposalRight (areas : List Area) (lines : List Licence) (draw : ℕ) (p : Proposal) : Type 0 where
  -- it is document 01's proposal for the lines, in every field
  pub answer : p ≡ proposal (holdings_of lines areas) draw
  -- "12: more than 20 partial areas", and nothing else is refused
  pub refused : p.refused ≡ cond (ltb 20 (length (partials (holdings_of lines areas)))) 12 0
  -- not refused, it is an allowed choice from S, every allowed choice ranks level or behind, and it is all whole exactly when some is
  pub right : p.refused ≡ 0 → demand.Right (holdings_of lines areas) p
  -- document 02, Paper 1: not refused, "The proposal shows the sum of cells for each map area"
  pub cells : p.refused ≡ 0 → cells_shown p ≡ map (cells_of lines) areas

-- the partial area of a footprint with its share: "A footprint's share is that of the proposal on the same lines with the footprint's
-- draw"
pub record Partial (areas : List Area) (lines : List Licence) (draw : ℕ) : Type 0 where
  pub area : Area
  pub located : locate area.head.number areas ≡ some area
  pub share : ℕ
  pub shared : shared_in (proposal (holdings_of lines areas) draw).areas ≡ shares area.head.number share

-- "the bytes it leaves": at 8 the count needed comes, the area's bytes are 0 and the others stay
pub record TooShort (areas : List Area) (lines : List Licence) (draw : ℕ) (mask table : List ℕ) (r : Reply) (after : List ℕ)
    : Type 0 where
  pub of : Partial areas lines draw
  pub count : r.needed ≡ needed (part_area of.area) of.share (covered_cells lines of.area)
  pub lacks : length table < r.needed
  pub zeros : after ≡ replicate (places (part_area of.area)) 0 ++ drop (places (part_area of.area)) mask

-- a footprint that is made: the mask marks a set of cells of the partial area that carries at least the share, exactly the share without
-- a last ring, and no more than any choice from the last ring that keeps the share
pub record Carries (areas : List Area) (lines : List Licence) (draw : ℕ) (mask : List ℕ) (r : Reply) (after : List ℕ) : Type 0 where
  pub of : Partial areas lines draw
  pub number : r.area ≡ of.area.head.number
  pub right : outline.Right (part_area of.area) of.share (covered_cells lines of.area) (shown after)
  pub past : drop (places (part_area of.area)) after ≡ drop (places (part_area of.area)) mask

-- "In a list, the licences in force are the ledger's lines before the call; c, S, T, share and F come from them": what is claimed of a
-- footprint over a map with these areas, by its reply and what it leaves of the mask and the table
pub record FootprintRight (areas : List Area) (lines : List Licence) (draw : ℕ) (mask table : List ℕ) (r : Reply)
    (after entries : List ℕ) : Type 0 where
  -- it is document 01's footprint for the lines: the answer, every byte of the mask, and every entry of the table that is not used
  pub answer : Leaves (footprint_by areas lines (length mask) (length table) (proposal (holdings_of lines areas) draw))
      r mask after table entries
  -- refused, it leaves the table, and the mask too save at 8
  pub table-left : (r.refused ≡ 0 → ⊥) → entries ≡ table
  pub mask-left : (r.refused ≡ 0 → ⊥) → (r.refused ≡ 8 → ⊥) → after ≡ mask
  pub short : r.refused ≡ 8 → TooShort areas lines draw mask table r after
  -- not refused
  pub carries : r.refused ≡ 0 → Carries areas lines draw mask r after

-- "The list of demand 3": an outcome is right if it is what the ledger answers, by its lines before the call
abbrev pub Right : List Area → List Licence → (c : Call) → Outcome c → Type 0
Right areas lines (grant s g w) n = n ≡ grant_rule lines (licence s g w)
Right areas lines (cancel s) n = n ≡ cancel_rule lines s
Right areas lines (propose draw) p = ProposalRight areas lines draw p
Right areas lines (footprint draw mask table) o = FootprintRight areas lines draw mask table o.answer o.mask o.table

-- over any bytes, whether they are a map or are refused by 1 to 5: the outcome is the one that document 01 defines for the ledger's lines
-- before the call
abbrev pub AsDefined : Read (List Area) → List Licence → (c : Call) → Outcome c → Type 0
AsDefined m lines (grant s g w) n = n ≡ grant_rule lines (licence s g w)
AsDefined m lines (cancel s) n = n ≡ cancel_rule lines s
AsDefined m lines (propose draw) p = p ≡ proposal_on m lines draw
AsDefined m lines (footprint draw mask table) o =
    Leaves (footprint_on m lines draw (length mask) (length table)) o.answer mask o.mask table o.table

-- "The list of demand 3": no two lines share a call sign, and there are at most 64
pub record Sound (lines : List Licence) : Type 0 where
  pub once : OnceEach lines
  pub few : length lines ≤ limit

-- "The list of demand 3": the licences in force are the ledger's lines, in some order
pub record Holds (r : Register) (lines : List Licence) : Type 0 where
  pub same : SameLicences (in_force r.places) lines
  pub sound : Sound (in_force r.places)

module _ {i : Interface} where
  -- what each answer of a list says has a property, by the ledger's lines before its call
  abbrev pub Each : (P : List Licence → (c : Call) → Outcome c → Type 0) → List Licence → List (Made i) → Type 0
  Each P lines [] = Unit {0}
  Each P lines (m ∷ made) =
      Saying (i.function m.call) m.answer (P lines m.call) × Each P (lines_after lines m.call) made

  -- the registers of a run: before each call and after the last they hold the ledger's lines, and ("Refused by the state") a refused
  -- call leaves its register
  abbrev pub Registers : {map : List ℕ} {r last : Register} {made : List (Made i)} → List Licence → Run i map r made last → Type 0
  Registers lines (done {r = r}) = Holds r lines
  Registers lines (step {r = r} {next = next} m s run) =
      Holds r lines × ((number_of m ≡ 0 → ⊥) → next ≡ r) × Registers (lines_after lines m.call) run

  -- "Demand 3 is one claim about a whole list of calls": from an empty register, over the same bytes throughout
  pub record ListClaim {map : List ℕ} {first last : Register} {made : List (Made i)} (run : Run i map first made last) : Type 0 where
    -- over "a map that 1 to 5 don't refuse" every answer is right for the ledger's lines before its call
    pub right : (areas : List Area) (end : ℕ) → read_map map ≡ good areas end → Each (Right areas) [] made
    -- over any bytes every answer is the one that document 01 defines for those lines
    pub defined : Each (AsDefined (read_map map)) [] made
    -- the registers hold the ledger's lines
    pub registers : Registers [] run
    -- the ledger's lines are sound after any first part of the list
    pub sound : (before later : List (Made i)) → made ≡ before ++ later → Sound (ledger [] (calls before))

-- the user's demand 3, of an interface
pub record Demand3 (i : Interface) : Type 0 where
  -- "No map, licence, call sign, draw or lent buffer": no call asks anything of its caller, over any bytes and any register
  pub empty-free : i.EmptyAsks
  pub free : (c : Call) (map : List ℕ) (r : Register) → (i.function c).Asks map r
  -- "for every list of grants, cancellations, proposals and footprints, refused ones included, from an empty register"
  pub claim : (map : List ℕ) (first last : Register) (made : List (Made i)) → i.Empties first → (run : Run i map first made last) →
      ListClaim run
