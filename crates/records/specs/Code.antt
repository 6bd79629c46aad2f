-- How the code goes about a record: what its inner functions come to. The contracts of the ways in cite none of this. Assumes nothing.
use Rattle.std.specs.Prelude.{ℕ, ◌+◌, ◌-◌, ◌%◌, Option, Some, None, option_map, List, eqb}
use Rattle.std.specs.List.{find}
use Rattle.units.specs.Sums.{capped}
use Rattle.coverage.specs.declared.Holding.{Holding}
use Rattle.coverage.specs.declared.CoverageSums.{CoverageSums}
use Rattle.coverage.specs.Cover.{sums_of_holding}
use Rattle.records.specs.declared.Kept.{Kept}
use Rattle.records.specs.declared.Record.{Record}
use Rattle.records.specs.Record.{with_sums, changed}

-- the sums of the first area that has the number
abbrev pub sums_in : (number : ℕ) → List Holding → Option CoverageSums
sums_in number areas = option_map sums_of_holding (find (λ h. eqb h.number number) areas)

-- an entry with sums added to its own, or subtracted
abbrev pub plus_sums : CoverageSums → Kept → Kept
plus_sums s k = with_sums k (capped (k.mhz_pops.0 + s.mhz_pops.0)) (capped (k.cells.0 + s.cells.0))

abbrev pub minus_sums : CoverageSums → Kept → Kept
minus_sums s k = with_sums k (k.mhz_pops.0 - s.mhz_pops.0) (k.cells.0 - s.cells.0)

-- or changed otherwise by the sums of its area, if there is one
abbrev pub moved : (by : CoverageSums → Kept → Kept) → Option CoverageSums → Kept → Kept
moved by None k = k
moved by (Some s) k = by s k

-- each entry of a record with the sums of the area of its number
abbrev pub moved_all : (by : CoverageSums → Kept → Kept) → List Holding → Record → Record
moved_all by areas = changed (λ k. moved by (sums_in k.number areas) k)

-- the area as a proposal reads it: the number fits a u16 where it is within its limits
abbrev pub held_by : Kept → Holding
held_by k = record {
  number = k.number % 65536;
  weight = k.weight;
  population = k.population;
  covered = k.mhz_pops;
  cells = k.cells;
}
