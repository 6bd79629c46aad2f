-- Document 01, "Coverage and blocks": what the functions below its two ways in ask for and give. Assumes nothing.
use Rattle.std.specs.Prelude.{ℕ, ◌+◌, ◌*◌, ◌≤◌, ◌<◌, ◌≡◌, Bool, ◌&&◌, List, leb}
use Rattle.lists.specs.Sums.{total, flag}
use Rattle.units.specs.Sums.{capped}
use Rattle.map.specs.declared.parts.Counts.{Counts}
use Rattle.map.specs.declared.parts.CountedArea.{CountedArea}
use Rattle.register.specs.declared.Licence.{Licence}
use Rattle.register.specs.declared.Naming.{Naming}
use Rattle.register.specs.Grounds.{names}
use Rattle.coverage.specs.declared.CoverageSums.{CoverageSums}
use Rattle.coverage.specs.declared.Holding.{Holding}

-- "The map": "weight, u32, 1 to 65,535" and "population .. 1 to 40,000,000". Within them v and M are exact
pub record Limits (h : Holding) : Type 0 where
  pub heavy : 1 ≤ h.weight
  pub light : h.weight ≤ 65535
  pub peopled : 0 < h.population.0
  pub small : h.population.0 ≤ 40000000

-- the same limits as a test
unfoldable pub in_limits : Holding → Bool
in_limits h = (leb 1 h.weight && leb h.weight 65535) && (leb 1 h.population.0 && leb h.population.0 40000000)

-- the licences that have the area with a number: how many there are, and their widths added
abbrev pub naming_of : List Licence → (number : ℕ) → Naming
naming_of licences number = record {
  licences = total (λ l. flag (names number l)) licences;
  width = total (λ l. l.width * flag (names number l)) licences;
}

-- so few that no sum of an area of a map comes near the largest count
pub record FewNaming (n : Naming) : Type 0 where
  pub licences : n.licences ≤ 64
  pub width : n.width ≤ 3200

-- c and the sum of cells by what one walk counts: the licences that have the whole area count its people by their widths and its cells
-- by their number, and the boxes of the others add theirs. Over an area of a map no sum stops (proofs/CoverLaws, `sums-are`)
abbrev pub sums_by : (always : Naming) → Counts → CoverageSums
sums_by always c = record {
  mhz_pops = record { 0 = capped (capped (always.width * c.people.0) + c.boxed_mhz_pops.0) };
  cells = record { 0 = capped (capped (always.licences * c.cells.0) + c.boxed_cells.0) };
}

-- an area that is handed out, with its c and its sum of cells
abbrev pub holding_by : (always : Naming) → CountedArea → Holding
holding_by always a = record {
  number = a.area.number;
  weight = a.area.weight;
  population = a.area.population;
  covered = (sums_by always a.counts).mhz_pops;
  cells = (sums_by always a.counts).cells;
}

-- what `holding_of` makes of it for the licences in force
pub record HoldingDone (licences : List Licence) (a : CountedArea) (r : Holding) : Type 0 where
  pub is : r ≡ holding_by (naming_of licences a.area.number) a
  pub few : FewNaming (naming_of licences a.area.number)
