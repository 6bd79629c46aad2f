-- Document 02, Paper 2: the record counted afresh from the licences in force, and what is claimed of a kept one. Assumes nothing.
use Rattle.std.specs.Prelude.{ℕ, ◌+◌, ◌≤◌, ◌≡◌, List, [], ◌∷◌, get_or}
use Rattle.units.specs.Sums.{largest}
use Rattle.map.specs.Reading.{good}
use Rattle.map.specs.Format.{Area, read_map, population}
use Rattle.map.specs.Answers.{some, locate}
use Rattle.register.specs.declared.Licence.{Licence}
use Rattle.register.specs.declared.Register.{Register}
use Rattle.register.specs.declared.Step.{Step}
use Rattle.register.specs.Licences.{in_force, struck}
use Rattle.coverage.specs.Cover.{coverage, sum_of_cells, holdings_of}
use Rattle.proposal.specs.Answer.{proposal}
use Rattle.records.specs.declared.Kept.{Kept}
use Rattle.records.specs.declared.Record.{Record}
use Rattle.records.specs.Record.{no_kept, record_by, proposal_from}
use Rattle.records.specs.Promises.{GrantKept, CancelKept}

-- what is kept of an area, its sums "counted afresh" from some licences
abbrev pub kept_for : List Licence → Area → Kept
kept_for ls a = record {
  number = a.head.number;
  weight = a.head.weight;
  population = record { 0 = population a.grid };
  mhz_pops = record { 0 = coverage ls a };
  cells = record { 0 = sum_of_cells ls a };
}

-- the record of a map with these areas, counted afresh
abbrev pub counted_afresh : List Licence → List Area → Record
counted_afresh ls = record_by (kept_for ls)

-- "so a lost licence stops counting with its cancellation": from a record counted afresh the proposal is the one over the map
abbrev pub AsOverMap : Type 0
AsOverMap = (s : List ℕ) (areas : List Area) (end : ℕ) → read_map s ≡ good areas end → (ls : List Licence) (draw : ℕ)
    → proposal_from (counted_afresh ls areas) draw ≡ proposal (holdings_of ls areas) draw

-- no sum of an area stops when what other licences cover there is added to what some cover
pub record NoneStops (ls more : List Licence) (a : Area) : Type 0 where
  pub mhz-pops : coverage ls a + coverage more a ≤ largest
  pub cells : sum_of_cells ls a + sum_of_cells more a ≤ largest

-- nor when what was struck is subtracted
pub record NoneBelow (ls fewer : List Licence) (a : Area) : Type 0 where
  pub mhz-pops : coverage fewer a ≤ coverage ls a
  pub cells : sum_of_cells fewer a ≤ sum_of_cells ls a

-- an entry whose sums are u64
pub record Fits (k : Kept) : Type 0 where
  pub mhz-pops : k.mhz_pops.0 ≤ largest
  pub cells : k.cells.0 ≤ largest

-- "Areas that a ground doesn't touch": some licences cover no cell in the map's area of the entry's number
abbrev pub Untouched : List Licence → List Area → Kept → Type 0
Untouched ls areas k = (a : Area) → locate k.number areas ≡ some a → sum_of_cells ls a ≡ 0

-- ".. keep their sums": the entry at any place, over any map, register and record
abbrev pub GrantLeavesUntouched : Type 0
GrantLeavesUntouched = (areas : List Area) (end : ℕ) (old : Register) (kept after : Record) (l : Licence) (r : Step)
    → GrantKept (good areas end) old kept l r after
    → (i : ℕ) → Fits (get_or kept.areas i no_kept) → Untouched (l ∷ []) areas (get_or kept.areas i no_kept)
    → get_or after.areas i no_kept ≡ get_or kept.areas i no_kept

abbrev pub CancelLeavesUntouched : Type 0
CancelLeavesUntouched = (areas : List Area) (end : ℕ) (old : Register) (kept after : Record) (s : ℕ) (r : Step)
    → CancelKept (good areas end) old kept s r after
    → (i : ℕ) → Untouched (struck s (in_force old.places)) areas (get_or kept.areas i no_kept)
    → get_or after.areas i no_kept ≡ get_or kept.areas i no_kept
