-- Document 01, "Holdings to prove by hand count": the twelve in one table that the checker evaluates. Document 02, Paper 4: "The twelve
-- cases keep their results, with each c multiplied by 50"; and some for licences narrower than 50 MHz. Assumes nothing.
use Rattle.std.specs.Prelude.{ℕ, zero, suc, List, [], ◌∷◌, pos, replicate}
use Rattle.map.specs.Format.{Place, cell, Area}
use Rattle.register.specs.declared.Ground.{Ground}
use Rattle.register.specs.declared.Ground.TheVariants as ground
use Rattle.register.specs.declared.Licence.{Licence}
use Rattle.register.specs.Licences.{full_licence}
use Rattle.coverage.specs.declared.Holding.{Holding}
use Rattle.coverage.specs.Cover.{holdings_of}
use Rattle.proposal.specs.Answer.{Gets, gets_nothing, gets_whole, gets_rounded_up, gets_share, Given, Proposal, proposal}
use Rattle.footprint.specs.Footprint.{Footprint, footprint_by}
use Rattle.footprint.specs.Promises.{Reply, reply, reply_of, mask_after, used_by}

-- ---- what a row is made of

-- an area by its number, weight, population and c in MHz-pops. "Weight 1 unless said; A, B, .. ascending": A, B, .. are 1, 2, ..
-- The holdings say nothing of cells (document 02, Paper 1): 0 here
abbrev pub area : (number weight pop c : ℕ) → Holding
area number weight pop c = record {
  number = number;
  weight = weight;
  population = record { 0 = pop };
  covered = record { 0 = c };
  cells = record { 0 = 0 };
}

-- what an area of the map is given: its number, its whole blocks and what it gets
abbrev pub gives : (number blocks : ℕ) → Gets → Given
gives number blocks gets = record { number = number; blocks = blocks; cells = 0; gets = gets }

-- the proposal of a kind that is not refused
abbrev pub proposed : (kind target white tied : ℕ) → List Given → Proposal
proposed kind target white tied given =
    record { refused = 0; kind = kind; target = target; white = white; tied = tied; areas = given }

-- "One row, people 5, 0, 4, 3, 8": an area of five cells, column c at latitude 0 and longitude c
abbrev pub one_row : Area
one_row = record {
  head = record { number = 1; weight = 1; rows = 1; columns = 5 };
  start = 9;
  grid = (at 5 0 ∷ at 0 1 ∷ at 4 2 ∷ at 3 3 ∷ at 8 4 ∷ []) ∷ [];
  end = 70;
}
  where
    at : (people column : ℕ) → Place
    at people column = cell (record { people = people; latitude = pos 0; longitude = pos column })

-- "a box over columns 2 and 3": a licence with a call sign, granted without a width
abbrev pub over_two : Ground
over_two = ground.Box (record { south = pos 0; north = pos 1; west = pos 2; east = pos 4 })

abbrev pub boxed : (sign : ℕ) → Licence
boxed sign = full_licence sign over_two

-- document 02, Paper 4: n licences of the same width over columns 2 and 3
abbrev pub slices : (n width : ℕ) → List Licence
slices zero width = []
slices (suc n) width = record (boxed (suc n)) { width = width } ∷ slices n width

-- ---- the table

-- a proposal for some areas and a draw; a proposal on one row for some licences; or a footprint on one row for some licences with a mask of
-- five bytes and a table of six entries
pub data Row : Type 0 where
  proposes : (areas : List Holding) → (draw : ℕ) → (comes : Proposal) → Row
  holds : (licences : List Licence) → (comes : Proposal) → Row
  outlines : (licences : List Licence) → (comes : Reply) → (used : ℕ) → (mask : List ℕ) → Row

abbrev pub rows : List Row
rows =
    -- 1. pop 100, c 198 × 50: one whole, S empty
    proposes (area 1 1 100 9_900 ∷ []) 0 (proposed 1 0 0 0 (gives 1 1 gets_nothing ∷ [])) ∷
    -- 2. c 197 × 50: partial, v 9,850
    proposes (area 1 1 100 9_850 ∷ []) 0 (proposed 2 9_850 150 1 (gives 1 0 gets_rounded_up ∷ [])) ∷
    -- 3. A alone, pop 100, c 180 × 50: kind 2, white space 1,000
    proposes (area 1 1 100 9_000 ∷ []) 0 (proposed 2 9_000 1_000 1 (gives 1 0 gets_rounded_up ∷ [])) ∷
    -- 4. c 179 × 50: kind 3, white space 1,050
    proposes (area 1 1 100 8_950 ∷ []) 0 (proposed 3 8_950 1_050 1 (gives 1 0 (gets_share 8_950) ∷ [])) ∷
    -- 5. A and B, pop 100, c 100 × 50: kind 1, A whole
    proposes (area 1 1 100 5_000 ∷ area 2 1 100 5_000 ∷ []) 0
    (proposed 1 10_000 0 0 (gives 1 0 gets_whole ∷ gives 2 0 gets_nothing ∷ [])) ∷
    -- 6. A pop 100 c 100 × 50, B pop 40 c 40 × 50: A gets 7,000, white space 3,000
    proposes (area 1 1 100 5_000 ∷ area 2 1 40 2_000 ∷ []) 0
    (proposed 3 7_000 3_000 1 (gives 1 0 (gets_share 7_000) ∷ gives 2 0 gets_nothing ∷ [])) ∷
    -- 7. A pop 1,000 c 1,000 × 50; B, C, D pop 330 c 300 × 50: A rounded up, white space 5,000, though B, C, D give 4,000
    proposes (area 1 1 1_000 50_000 ∷ area 2 1 330 15_000 ∷ area 3 1 330 15_000 ∷ area 4 1 330 15_000 ∷ []) 0
    (proposed 2 95_000 5_000 1
    (gives 1 0 gets_rounded_up ∷ gives 2 0 gets_nothing ∷ gives 3 0 gets_nothing ∷ gives 4 0 gets_nothing ∷ [])) ∷
    -- 8. A pop 100 c 180 × 50, B pop 120 weight 3 c 200 × 50: white space is 7,000 either way; B gets 29,000, A whole
    proposes (area 1 1 100 9_000 ∷ area 2 3 120 10_000 ∷ []) 0
    (proposed 3 39_000 7_000 1 (gives 1 0 gets_whole ∷ gives 2 0 (gets_share 29_000) ∷ [])) ∷
    -- 9. A and B, pop 100, c 150 × 50: tied 2; draw 0 gives A the share 5,000, draw 3 gives it to B
    proposes (area 1 1 100 7_500 ∷ area 2 1 100 7_500 ∷ []) 0
    (proposed 3 15_000 5_000 2 (gives 1 0 (gets_share 5_000) ∷ gives 2 0 gets_whole ∷ [])) ∷
    proposes (area 1 1 100 7_500 ∷ area 2 1 100 7_500 ∷ []) 3
    (proposed 3 15_000 5_000 2 (gives 1 0 gets_whole ∷ gives 2 0 (gets_share 5_000) ∷ [])) ∷
    -- 10. One row, people 5, 0, 4, 3, 8, a box over columns 2 and 3: with one licence the footprint is column 2
    outlines (boxed 1 ∷ []) (reply 0 0 1) 4 (0 ∷ 0 ∷ 1 ∷ 0 ∷ 0 ∷ []) ∷
    -- 11. Two such: columns 2 and 3
    outlines (boxed 1 ∷ boxed 2 ∷ []) (reply 0 0 1) 0 (0 ∷ 0 ∷ 1 ∷ 1 ∷ 0 ∷ []) ∷
    -- 12. Three: columns 1 to 4
    outlines (boxed 1 ∷ boxed 2 ∷ boxed 3 ∷ []) (reply 0 0 1) 5 (0 ∷ 1 ∷ 1 ∷ 1 ∷ 1 ∷ []) ∷
    -- one MHz-pop below 99 in the hundred: partial, v 9,899
    proposes (area 1 1 100 9_899 ∷ []) 0 (proposed 2 9_899 101 1 (gives 1 0 gets_rounded_up ∷ [])) ∷
    -- one MHz-pop below 90 in the hundred: kind 3, white space 1,001
    proposes (area 1 1 100 8_999 ∷ []) 0 (proposed 3 8_999 1_001 1 (gives 1 0 (gets_share 8_999) ∷ [])) ∷
    -- ten licences of 5 MHz where one of 50 stood: the same proposal but for its cells, and the footprint of holding 10
    holds (boxed 1 ∷ []) (proposed 3 350 1_650 1 (record { number = 1; blocks = 0; cells = 2; gets = gets_share 350 } ∷ [])) ∷
    holds (slices 10 5) (proposed 3 350 1_650 1 (record { number = 1; blocks = 0; cells = 20; gets = gets_share 350 } ∷ [])) ∷
    outlines (slices 10 5) (reply 0 0 1) 4 (0 ∷ 0 ∷ 1 ∷ 0 ∷ 0 ∷ []) ∷
    -- one licence of 20 MHz: F is still columns 2 and 3, of which a share of 140 keeps the 3 people of column 3
    outlines (slices 1 20) (reply 0 0 1) 6 (0 ∷ 0 ∷ 0 ∷ 1 ∷ 0 ∷ []) ∷ []

-- ---- what comes, by the definitions and by the table

pub data Result : Type 0 where
  proposal-is : Proposal → Result
  footprint-is : Reply → (used : ℕ) → (mask : List ℕ) → Result

-- the footprint on the one row, with draw 0
abbrev pub on_row : List Licence → Footprint
on_row licences = footprint_by (one_row ∷ []) licences 5 6 (proposal (holdings_of licences (one_row ∷ [])) 0)

abbrev pub outlined : Footprint → Result
outlined o = footprint-is (reply_of o) (used_by o) (mask_after o (replicate 5 9))

abbrev pub comes : Row → Result
comes (proposes areas draw p) = proposal-is (proposal areas draw)
comes (holds licences p) = proposal-is (proposal (holdings_of licences (one_row ∷ [])) 0)
comes (outlines licences r used mask) = outlined (on_row licences)

abbrev pub expected : Row → Result
expected (proposes areas draw p) = proposal-is p
expected (holds licences p) = proposal-is p
expected (outlines licences r used mask) = footprint-is r used mask
