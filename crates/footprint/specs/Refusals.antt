-- Document 01, "Refused by the input" and "Refused by the state": what a proposal and a footprint are refused by, on a table of cases that
-- the checker evaluates (proofs/HandCounts). In a first row of each number what is checked later would be refused too. Assumes nothing.
use Rattle.std.specs.Prelude.{ℕ, zero, suc, List, [], ◌∷◌, pos, replicate}
use Rattle.map.specs.Reading.{Read, bad, good}
use Rattle.map.specs.Format.{cell, Area}
use Rattle.register.specs.declared.Ground.TheVariants as ground
use Rattle.register.specs.declared.Licence.{Licence}
use Rattle.register.specs.Licences.{full_licence}
use Rattle.proposal.specs.Answer.{proposal_on}
use Rattle.footprint.specs.Footprint.{Footprint, footprint_on}
use Rattle.footprint.specs.Promises.{Reply, reply, reply_of, mask_after}
use Rattle.footprint.specs.Holdings.{one_row, boxed}

-- ---- maps and licences

-- areas 1 to n, ascending, ahead of others: one cell with two people each; and a licence for each, so that half a block is held in it
abbrev pub cell_areas : (n : ℕ) → List Area → List Area
cell_areas zero later = later
cell_areas (suc n) later = cell_areas n (record {
  head = record { number = suc n; weight = 1; rows = 1; columns = 1 };
  start = 0;
  grid = (cell (record { people = 2; latitude = pos 0; longitude = pos 0 }) ∷ []) ∷ [];
  end = 0;
} ∷ later)

abbrev pub area_licences : (n : ℕ) → List Licence
area_licences zero = []
area_licences (suc n) = full_licence (suc n) (ground.Area (suc n)) ∷ area_licences n

-- n licences over columns 2 and 3 of the one row
abbrev pub boxes : (n : ℕ) → List Licence
boxes zero = []
boxes (suc n) = boxed (suc n) ∷ boxes n

-- document 01's one row of holdings 10 to 12
abbrev pub on_row : Read (List Area)
on_row = good (one_row ∷ []) 70

-- ---- the table

-- a map, the licences in force, the bytes of the mask and the entries of the table that are lent; then the number that refuses a
-- proposal, the reply to a footprint, and the mask that it leaves of bytes 9
pub data Row : Type 0 where
  asks : (m : Read (List Area)) → List Licence → (mask table : ℕ) → (proposal : ℕ) → Reply → (left : List ℕ) → Row

abbrev pub rows : List Row
rows =
    -- 1 to 5: the map's fault, with nothing to lend and with enough
    asks (bad 1) (boxes 1) 0 0 1 (reply 1 0 0) [] ∷
    asks (bad 5) (boxes 1) 5 5 5 (reply 5 0 0) (9 ∷ 9 ∷ 9 ∷ 9 ∷ 9 ∷ []) ∷
    -- 12: 21 partial areas, with nothing to lend and with enough
    asks (good (cell_areas 21 []) 0) (area_licences 21) 0 0 12 (reply 12 0 0) [] ∷
    asks (good (cell_areas 21 []) 0) (area_licences 21) 1 1 12 (reply 12 0 0) (9 ∷ []) ∷
    -- 13: the proposal is exact, as nothing is held, or rounded up (1,850 of a block's 2,000 MHz-pops, beside a whole one)
    asks on_row [] 0 0 0 (reply 13 0 0) [] ∷
    asks on_row [] 5 5 0 (reply 13 0 0) (9 ∷ 9 ∷ 9 ∷ 9 ∷ 9 ∷ []) ∷
    asks on_row (boxes 11) 0 0 0 (reply 13 0 0) [] ∷
    -- 7: one byte too few, the table too short as well or long enough
    asks on_row (boxes 1) 4 0 0 (reply 7 0 0) (9 ∷ 9 ∷ 9 ∷ 9 ∷ []) ∷
    asks on_row (boxes 1) 4 5 0 (reply 7 0 0) (9 ∷ 9 ∷ 9 ∷ 9 ∷ []) ∷
    -- 8: no entry, and one too few; the area's bytes are 0 and the byte past them stays
    asks on_row (boxes 1) 6 0 0 (reply 8 4 0) (0 ∷ 0 ∷ 0 ∷ 0 ∷ 0 ∷ 9 ∷ []) ∷
    asks on_row (boxes 1) 6 3 0 (reply 8 4 0) (0 ∷ 0 ∷ 0 ∷ 0 ∷ 0 ∷ 9 ∷ []) ∷
    -- the bytes and entries that are needed, and no table where there is no last ring
    asks on_row (boxes 1) 6 4 0 (reply 0 0 1) (0 ∷ 0 ∷ 1 ∷ 0 ∷ 0 ∷ 9 ∷ []) ∷
    asks on_row (boxes 2) 5 0 0 (reply 0 0 1) (0 ∷ 0 ∷ 1 ∷ 1 ∷ 0 ∷ []) ∷ []

-- ---- what comes, by the definitions and by the table

pub record Result : Type 0 where
  pub proposal : ℕ
  pub footprint : Reply
  pub left : List ℕ

abbrev pub outlined : (proposal mask : ℕ) → Footprint → Result
outlined n mask o = record { proposal = n; footprint = reply_of o; left = mask_after o (replicate mask 9) }

abbrev pub comes : Row → Result
comes (asks m licences mask table n r left) = outlined (proposal_on m licences 0).refused mask (footprint_on m licences 0 mask table)

abbrev pub expected : Row → Result
expected (asks m licences mask table n r left) = record { proposal = n; footprint = r; left = left }
