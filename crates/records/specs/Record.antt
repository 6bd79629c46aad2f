-- Document 02, Paper 2: a record, what a grant and a cancellation make of it, and the proposal from it. Assumes nothing.
use Rattle.std.specs.Prelude.{ℕ, ◌+◌, ◌-◌, cond, not, List, [], ◌∷◌, ◌++◌, map, ltb, leb, eqb, length, take, drop, replicate}
use Rattle.units.specs.Sums.{capped}
use Rattle.map.specs.Format.{Area, within, population}
use Rattle.map.specs.Answers.{Located, none, some, locate}
use Rattle.register.specs.declared.Licence.{Licence}
use Rattle.coverage.specs.declared.Holding.{Holding}
use Rattle.coverage.specs.Cover.{coverage, sum_of_cells}
use Rattle.proposal.specs.Answer.{Proposal, refused_by, proposal}
use Rattle.records.specs.declared.Kept.{Kept}
use Rattle.records.specs.declared.Record.{Record}

-- ---- loading

-- "Loading a map gives sums of 0"; "The record also keeps each area's number, weight and population"
abbrev pub kept_area : Area → Kept
kept_area a = record {
  number = a.head.number;
  weight = a.head.weight;
  population = record { 0 = population a.grid };
  mhz_pops = record { 0 = 0 };
  cells = record { 0 = 0 };
}

-- what stands at an entry past the areas
abbrev pub no_kept : Kept
no_kept = record { number = 0; weight = 0; population = record { 0 = 0 }; mhz_pops = record { 0 = 0 }; cells = record { 0 = 0 } }

-- an entry for each area, and blank ones past them
abbrev pub record_by : (Area → Kept) → List Area → Record
record_by f areas = record { count = length areas; areas = map f areas ++ replicate (32 - length areas) no_kept }

-- the record just loaded
abbrev pub loaded : List Area → Record
loaded = record_by kept_area

-- what a refused load hands back
abbrev pub no_record : Record
no_record = record { count = 0; areas = replicate 32 no_kept }

-- ---- "A grant adds the coverage of its ground and a cancellation subtracts it"

-- an entry with other sums: "Of a record, a grant or a cancellation changes only sums"
abbrev pub with_sums : Kept → (mhz_pops cells : ℕ) → Kept
with_sums k m c = record {
  number = k.number;
  weight = k.weight;
  population = k.population;
  mhz_pops = record { 0 = m };
  cells = record { 0 = c };
}

-- what some licences cover in the area is added: "Sums are u64 and stop at 0 and at 2^64 - 1"
abbrev pub added_in : List Licence → Kept → Located → Kept
added_in ls k none = k
added_in ls k (some a) = with_sums k (capped (k.mhz_pops.0 + coverage ls a)) (capped (k.cells.0 + sum_of_cells ls a))

-- or subtracted
abbrev pub subtracted_in : List Licence → Kept → Located → Kept
subtracted_in ls k none = k
subtracted_in ls k (some a) = with_sums k (k.mhz_pops.0 - coverage ls a) (k.cells.0 - sum_of_cells ls a)

-- in the map's area of the entry's number; "an area that the map lacks keeps its sums"
abbrev pub added : List Licence → List Area → Kept → Kept
added ls areas k = added_in ls k (locate k.number areas)

abbrev pub subtracted : List Licence → List Area → Kept → Kept
subtracted ls areas k = subtracted_in ls k (locate k.number areas)

-- "a record whose count is above 32 is taken by both as having 32"
abbrev pub entries : Record → ℕ
entries r = cond (leb r.count 32) r.count 32

-- the entries of a record, each changed; those past its count stay
abbrev pub changed : (Kept → Kept) → Record → Record
changed f r = record { count = r.count; areas = map f (take (entries r) r.areas) ++ drop (entries r) r.areas }

-- ---- "a proposal from it reads no map"

-- what is kept of an area, from the area with its sums
abbrev pub kept : Holding → Kept
kept h = record { number = h.number; weight = h.weight; population = h.population; mhz_pops = h.covered; cells = h.cells }

-- the area with its sums, from what is kept of it
abbrev pub held : Kept → Holding
held k = record { number = k.number; weight = k.weight; population = k.population; covered = k.mhz_pops; cells = k.cells }

-- "refuses a record outside document 01's limits by 2 for a count, number or weight, 4 for order, 5 for a population, the first fault in
-- the map's field order": the fault of an area after one with the number `before`, 0 for none
abbrev pub area_fault : (before : ℕ) → Kept → ℕ
area_fault before k =
    cond (not (within 1 416 k.number)) 2
    (cond (not (ltb before k.number)) 4
    (cond (not (within 1 65_535 k.weight)) 2
    (cond (not (within 1 40_000_000 k.population.0)) 5 0)))

-- the first fault of some areas
unfoldable pub areas_fault : (before : ℕ) → List Kept → ℕ
areas_fault before [] = 0
areas_fault before (k ∷ l) = cond (eqb (area_fault before k) 0) (areas_fault k.number l) (area_fault before k)

-- the first fault of a record: its count, then each area in turn
abbrev pub record_fault : Record → ℕ
record_fault r = cond (within 1 32 r.count) (areas_fault 0 (take r.count r.areas)) 2

-- "then 12": else it is the proposal of the areas with their kept sums
unfoldable pub proposal_from : Record → (draw : ℕ) → Proposal
proposal_from r draw =
    cond (eqb (record_fault r) 0) (proposal (map held (take r.count r.areas)) draw) (refused_by (record_fault r))
