-- What is handed out of all areas of a map: each with its c, and where its rows stand. Assumes nothing.
use Rattle.std.specs.Prelude.{ℕ, ◌-◌, ◌≤◌, ◌≡◌, List, map, length, take, drop, replicate, Result, Ok, Err}
use Rattle.map.specs.Reading.{Read, bad, good}
use Rattle.map.specs.Format.{Area}
use Rattle.map.specs.declared.Fault.{Fault}
use Rattle.map.specs.Answers.{fault_number, summary}
use Rattle.register.specs.declared.Licence.{Licence}
use Rattle.coverage.specs.declared.Holdings.{Holdings}
use Rattle.coverage.specs.Cover.{holdings_of}
use Rattle.coverage.specs.Answers.{no_holding, no_area}

-- of an accepted map: the holdings of its areas, where each area's rows stand, and a fixed value at the entries past them
pub record HoldingsAre (licences : List Licence) (reading : Read (List Area)) (r : Holdings) : Type 0 where
  pub areas : List Area
  pub next : ℕ
  pub reads : reading ≡ good areas next
  pub count : r.count ≡ length areas
  pub few : r.count ≤ 32
  pub entries : length r.areas ≡ 32
  pub each : take r.count r.areas ≡ holdings_of licences areas
  pub past : drop r.count r.areas ≡ replicate (32 - r.count) no_holding
  pub stand-entries : length r.stands ≡ 32
  pub stands : take r.count r.stands ≡ map summary areas
  pub stands-past : drop r.count r.stands ≡ replicate (32 - r.count) no_area

-- what `holdings_in` hands back: the number of a map's refusal, or the holdings of an accepted map
abbrev pub HoldingsDone : List Licence → Read (List Area) → Result Holdings Fault → Type 0
HoldingsDone licences reading (Err f) = reading ≡ bad (fault_number f)
HoldingsDone licences reading (Ok h) = HoldingsAre licences reading h
