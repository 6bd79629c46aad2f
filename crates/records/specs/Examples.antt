-- Records counted by hand: grants and cancellations over a map of two areas, sums that stop, and the faults of records. A wrong row is
-- refused. Assumes nothing.
use Rattle.std.specs.Prelude.{ℕ, ◌-◌, ◌≡◌, refl, Bool, true, false, ◌&&◌, List, [], ◌∷◌, ◌++◌, eqb, pos, length, replicate}
use Rattle.units.specs.Sums.{largest, capped}
use Rattle.map.specs.Format.{Place, cell, Area}
use Rattle.map.specs.Answers.{locate}
use Rattle.register.specs.declared.Ground.TheVariants as ground
use Rattle.register.specs.declared.Licence.{Licence}
use Rattle.register.specs.Licences.{full_licence}
use Rattle.records.specs.declared.Kept.{Kept}
use Rattle.records.specs.declared.Record.{Record}
use Rattle.records.specs.Record.{no_kept, loaded, added, subtracted, changed, areas_fault, record_fault}
use Rattle.records.specs.Afresh.{counted_afresh}

-- ---- the map: area 7 has a row with people 5, 0, 4, 3, 8, and area 9 one cell with 100

abbrev at : (people longitude : ℕ) → Place
at p x = cell (record { people = p; latitude = pos 0; longitude = pos x })

abbrev seven : Area
seven = record {
  head = record { number = 7; weight = 1; rows = 1; columns = 5 };
  start = 9;
  grid = (at 5 0 ∷ at 0 1 ∷ at 4 2 ∷ at 3 3 ∷ at 8 4 ∷ []) ∷ [];
  end = 70;
}

abbrev nine : Area
nine = record {
  head = record { number = 9; weight = 1; rows = 1; columns = 1 };
  start = 78;
  grid = (at 100 50 ∷ []) ∷ [];
  end = 91;
}

abbrev areas : List Area
areas = seven ∷ nine ∷ []

-- a box over columns 2 and 3 of area 7, and area 9 at 20 MHz
abbrev in_seven : Licence
in_seven = full_licence 1 (ground.Box (record { south = pos 0; north = pos 1; west = pos 2; east = pos 4 }))

abbrev all_nine : Licence
all_nine = record (full_licence 2 (ground.Area 9)) { width = 20 }

-- ---- grants and cancellations

abbrev granted : Licence → Record → Record
granted l = changed (added (l ∷ []) areas)

abbrev cancelled : Licence → Record → Record
cancelled l = changed (subtracted (l ∷ []) areas)

-- an entry of a record that nobody loaded: its number and its sums
abbrev entry : (number mhz-pops cells : ℕ) → Kept
entry n m c = record { number = n; weight = 1; population = record { 0 = 1 }; mhz_pops = record { 0 = m }; cells = record { 0 = c } }

-- such entries with a count, and blank entries past them
abbrev forged : (count : ℕ) → List Kept → Record
forged n l = record { count = n; areas = l ++ replicate (32 - length l) no_kept }

-- a record, and its first entries: number, c and cells
pub data Row : Type 0 where
  keeps : Record → List Kept → Row

abbrev pub rows : List Row
rows =
    keeps (loaded areas) (entry 7 0 0 ∷ entry 9 0 0 ∷ no_kept ∷ []) ∷
    -- 50 MHz over 4 and 3 people, in two cells; 20 MHz over 100
    keeps (granted in_seven (loaded areas)) (entry 7 350 2 ∷ entry 9 0 0 ∷ no_kept ∷ []) ∷
    keeps (granted all_nine (granted in_seven (loaded areas))) (entry 7 350 2 ∷ entry 9 2_000 1 ∷ no_kept ∷ []) ∷
    -- a cancelled licence stops counting, and the same is counted afresh from what is left
    keeps (cancelled in_seven (granted all_nine (granted in_seven (loaded areas)))) (entry 7 0 0 ∷ entry 9 2_000 1 ∷ []) ∷
    keeps (counted_afresh (all_nine ∷ []) areas) (entry 7 0 0 ∷ entry 9 2_000 1 ∷ no_kept ∷ []) ∷
    -- by number and not by place; an area that the map lacks keeps its sums
    keeps (granted in_seven (forged 3 (entry 9 6 6 ∷ entry 8 5 5 ∷ entry 7 1 1 ∷ []))) (entry 9 6 6 ∷ entry 8 5 5 ∷ entry 7 351 3 ∷ []) ∷
    -- entries past the count stay, and a count above 32 is taken as 32
    keeps (granted in_seven (forged 1 (entry 7 1 1 ∷ entry 7 1 1 ∷ []))) (entry 7 351 3 ∷ entry 7 1 1 ∷ []) ∷
    keeps (granted in_seven (forged 33 (entry 7 1 1 ∷ entry 7 1 1 ∷ []))) (entry 7 351 3 ∷ entry 7 351 3 ∷ []) ∷
    keeps (granted in_seven (forged 0 (entry 7 1 1 ∷ []))) (entry 7 1 1 ∷ []) ∷
    -- sums stop at 2^64 - 1 and at 0
    keeps (granted in_seven (forged 1 (entry 7 (largest - 350) (largest - 1) ∷ []))) (entry 7 largest largest ∷ []) ∷
    keeps (granted in_seven (forged 1 (entry 7 (largest - 349) (largest - 2) ∷ []))) (entry 7 largest largest ∷ []) ∷
    keeps (cancelled in_seven (forged 1 (entry 7 350 1 ∷ []))) (entry 7 0 0 ∷ []) ∷
    keeps (cancelled in_seven (forged 1 (entry 7 349 3 ∷ []))) (entry 7 0 1 ∷ []) ∷ []

abbrev same_entries : List Kept → List Kept → Bool
same_entries [] l = true
same_entries (k ∷ ks) [] = false
same_entries (k ∷ ks) (x ∷ l) =
    eqb k.number x.number && eqb k.mhz_pops.0 x.mhz_pops.0 && eqb k.cells.0 x.cells.0 && same_entries ks l

abbrev pub rows_right : List Row → Bool
rows_right [] = true
rows_right (keeps r l ∷ more) = same_entries l r.areas && rows_right more

pub rows_right-rows : rows_right rows ≡ true
unfolding locate capped
rows_right-rows = refl

-- ---- faults

-- an entry of a record by its number, weight and population
abbrev area : (number weight people : ℕ) → Kept
area n w p =
    record { number = n; weight = w; population = record { 0 = p }; mhz_pops = record { 0 = largest }; cells = record { 0 = 0 } }

pub data FaultRow : Type 0 where
  refused : Record → ℕ → FaultRow

abbrev pub faults : List FaultRow
faults =
    refused (forged 1 (area 416 65_535 40_000_000 ∷ [])) 0 ∷
    refused (forged 2 (area 1 1 1 ∷ area 2 1 1 ∷ [])) 0 ∷
    -- the count
    refused (forged 0 (area 1 1 1 ∷ [])) 2 ∷
    refused (forged 33 (area 1 1 1 ∷ [])) 2 ∷
    -- an entry that is blank within the count
    refused (forged 2 (area 1 1 1 ∷ [])) 2 ∷
    -- number, order, weight, population
    refused (forged 1 (area 417 1 1 ∷ [])) 2 ∷
    refused (forged 2 (area 5 1 1 ∷ area 5 1 1 ∷ [])) 4 ∷
    refused (forged 2 (area 5 1 1 ∷ area 4 0 0 ∷ [])) 4 ∷
    refused (forged 1 (area 1 0 0 ∷ [])) 2 ∷
    refused (forged 1 (area 1 65_536 1 ∷ [])) 2 ∷
    refused (forged 1 (area 1 1 0 ∷ [])) 5 ∷
    refused (forged 1 (area 1 1 40_000_001 ∷ [])) 5 ∷
    -- the first fault: a population comes before the next area's number
    refused (forged 2 (area 5 1 0 ∷ area 5 1 1 ∷ [])) 5 ∷
    refused (forged 2 (area 5 1 1 ∷ area 417 0 0 ∷ [])) 2 ∷ []

abbrev pub faults_right : List FaultRow → Bool
faults_right [] = true
faults_right (refused r n ∷ more) = eqb (record_fault r) n && faults_right more

pub faults-right : faults_right faults ≡ true
unfolding areas_fault
faults-right = refl
