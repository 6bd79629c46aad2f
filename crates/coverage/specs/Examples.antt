-- Tables of cases for coverage and blocks. That they come out right is shown in proofs/Examples; a wrong row is refused there. Assumes
-- nothing.
use Rattle.std.specs.Prelude.{ℕ, Bool, true, false, ◌&&◌, List, [], ◌∷◌, eqb, ℤ, pos, negsuc}
use Rattle.map.specs.Reading.{Read, bad, good}
use Rattle.map.specs.Format.{Place, gap, cell, Area}
use Rattle.register.specs.declared.Ground.TheVariants as ground
use Rattle.register.specs.declared.Licence.{Licence}
use Rattle.register.specs.Licences.{full_licence}
use Rattle.coverage.specs.declared.Holding.{Holding}
use Rattle.coverage.specs.declared.AreaBlocks.{AreaBlocks}
use Rattle.coverage.specs.declared.CoverageSums.{CoverageSums}
use Rattle.coverage.specs.Cover.{coverage, sum_of_cells}
use Rattle.coverage.specs.Blocks.{blocks_of}
use Rattle.coverage.specs.Answers.{Answer, refused, answers, coverage_at, blocks_at}

-- ---- blocks

-- population, weight and c, then whole blocks, v and M
pub data BlocksRow : Type 0 where
  holds : (population weight covered whole value size : ℕ) → BlocksRow

abbrev pub blocks_rows : List BlocksRow
blocks_rows =
    -- r is 99 × pop at c 9,900, and one MHz-pop below it at c 9,899: one person at 1 MHz
    holds 100 1 9_900 1 0 0 ∷
    holds 100 1 9_899 0 9_899 10_000 ∷
    holds 100 1 9_901 1 0 0 ∷
    -- one person at 50 MHz below it
    holds 100 1 9_850 0 9_850 10_000 ∷
    -- no remainder, and the least one
    holds 100 1 0 0 0 0 ∷
    holds 100 1 1 0 1 10_000 ∷
    holds 100 1 9_999 1 0 0 ∷
    holds 100 1 10_000 1 0 0 ∷
    holds 100 1 10_001 1 1 10_000 ∷
    -- above a whole block
    holds 100 1 19_899 1 9_899 10_000 ∷
    holds 100 1 19_900 2 0 0 ∷
    -- the weight counts in v and M only
    holds 100 3 9_899 0 29_697 30_000 ∷
    holds 100 3 9_900 1 0 0 ∷
    -- the largest area
    holds 40_000_000 65_535 3_959_999_999 0 259_518_599_934_465 262_140_000_000_000 ∷
    holds 40_000_000 65_535 3_960_000_000 1 0 0 ∷ []

abbrev held : (population weight covered : ℕ) → Holding
held p w c = record { number = 5; weight = w; population = record { 0 = p }; covered = record { 0 = c }; cells = record { 0 = 0 } }

abbrev same_blocks : AreaBlocks → (whole value size : ℕ) → Bool
same_blocks b n v m = eqb b.whole n && eqb b.value.0 v && eqb b.size.0 m

abbrev pub blocks_right : List BlocksRow → Bool
blocks_right [] = true
blocks_right (holds p w c n v m ∷ rows) = same_blocks (blocks_of (held p w c)) n v m && blocks_right rows

-- ---- coverage of one area: number 5, three rows and two columns, two places without a cell, and a cell without people

abbrev at : (people : ℕ) → (latitude longitude : ℤ) → Place
at p x y = cell (record { people = p; latitude = x; longitude = y })

abbrev five : Area
five = record {
  head = record { number = 5; weight = 1; rows = 3; columns = 2 };
  start = 9;
  grid =
      (at 10 (pos 0) (pos 0) ∷ at 4 (pos 0) (pos 1) ∷ []) ∷
      (gap ∷ at 3 (negsuc 0) (pos 1) ∷ []) ∷
      (at 0 (negsuc 1) (pos 0) ∷ gap ∷ []) ∷ [];
  end = 60;
}

-- a licence for an area, and one for a box by its south, north, west and east, each 50 MHz wide
abbrev of_area : ℕ → Licence
of_area n = full_licence 1 (ground.Area n)

abbrev of_box : (south north west east : ℤ) → Licence
of_box s n w e = full_licence 1 (ground.Box (record { south = s; north = n; west = w; east = e }))

-- the same licence at another width
abbrev wide : ℕ → Licence → Licence
wide w l = record l { width = w }

-- the licences in force, c and the sum of cells
pub data CoverRow : Type 0 where
  covered : List Licence → (mhz-pops cells : ℕ) → CoverRow

abbrev pub cover_rows : List CoverRow
cover_rows =
    covered [] 0 0 ∷
    -- every cell, the first row, and the cell without people
    covered (of_box (negsuc 1) (pos 1) (pos 0) (pos 2) ∷ []) 850 4 ∷
    covered (of_box (pos 0) (pos 1) (pos 0) (pos 2) ∷ []) 700 2 ∷
    covered (of_box (negsuc 1) (negsuc 0) (pos 0) (pos 2) ∷ []) 0 1 ∷
    -- a cell on the south edge is covered, one on the north edge is not
    covered (of_box (negsuc 0) (pos 0) (pos 0) (pos 2) ∷ []) 150 1 ∷
    covered (of_box (pos 1) (pos 2) (pos 0) (pos 2) ∷ []) 0 0 ∷
    -- a cell on the west edge is covered, one on the east edge is not
    covered (of_box (pos 0) (pos 1) (pos 1) (pos 2) ∷ []) 200 1 ∷
    covered (of_box (pos 0) (pos 1) (pos 0) (pos 1) ∷ []) 500 1 ∷
    covered (of_box (pos 0) (pos 1) (negsuc 4) (pos 0) ∷ []) 0 0 ∷
    -- two adjoining boxes share no cell
    covered (of_box (pos 0) (pos 1) (pos 0) (pos 1) ∷ of_box (pos 0) (pos 1) (pos 1) (pos 2) ∷ []) 700 2 ∷
    -- two licences on the same cell count it twice
    covered (of_box (pos 0) (pos 1) (pos 0) (pos 1) ∷ of_box (pos 0) (pos 1) (pos 0) (pos 1) ∷ []) 1_000 2 ∷
    covered (of_box (pos 0) (pos 1) (pos 0) (pos 1) ∷ of_box (pos 0) (pos 1) (pos 0) (pos 2) ∷ []) 1_200 3 ∷
    -- the area's own number, another's, and an area with a box
    covered (of_area 5 ∷ []) 850 4 ∷
    covered (of_area 6 ∷ []) 0 0 ∷
    covered (of_area 5 ∷ of_area 5 ∷ []) 1_700 8 ∷
    covered (of_area 6 ∷ of_area 5 ∷ of_box (pos 0) (pos 1) (pos 0) (pos 1) ∷ []) 1_350 5 ∷
    -- widths: 20 MHz, 1 MHz, and 0, which no licence that was granted has; a cell counts once for each licence, whatever its width
    covered (wide 20 (of_area 5) ∷ []) 340 4 ∷
    covered (wide 1 (of_box (pos 0) (pos 1) (pos 0) (pos 1)) ∷ []) 10 1 ∷
    covered (wide 0 (of_area 5) ∷ []) 0 4 ∷
    covered (wide 20 (of_area 5) ∷ wide 3 (of_box (pos 0) (pos 1) (pos 0) (pos 1)) ∷ of_area 5 ∷ []) 1_220 9 ∷
    -- two slices that make up 50 MHz give the c of one licence
    covered (wide 35 (of_area 5) ∷ wide 15 (of_area 5) ∷ []) 850 8 ∷ []

abbrev pub cover_right : List CoverRow → Bool
cover_right [] = true
cover_right (covered ls c n ∷ rows) = eqb (coverage ls five) c && eqb (sum_of_cells ls five) n && cover_right rows

-- ---- answers: the area's number, a number that the map lacks, and a map that is refused

abbrev cover_is : Answer CoverageSums → (mhz-pops cells : ℕ) → Bool
cover_is (refused m) p n = false
cover_is (answers c) p n = eqb c.mhz_pops.0 p && eqb c.cells.0 n

abbrev cover_refused : Answer CoverageSums → ℕ → Bool
cover_refused (refused m) n = eqb m n
cover_refused (answers c) n = false

abbrev blocks_are : Answer AreaBlocks → (whole value size : ℕ) → Bool
blocks_are (refused m) n v s = false
blocks_are (answers b) n v s = same_blocks b n v s

abbrev refused_by : Answer AreaBlocks → ℕ → Bool
refused_by (refused m) n = eqb m n
refused_by (answers b) n = false

abbrev on_map : Read (List Area)
on_map = good (five ∷ []) 60

-- a licence for the area and one for a cell of 10 people: c 1,350 of 17 people, and 5 cells of 4
abbrev lines : List Licence
lines = of_area 5 ∷ of_box (pos 0) (pos 1) (pos 0) (pos 1) ∷ []

abbrev pub answers_right : Bool
answers_right =
    cover_is (coverage_at 5 lines on_map) 1_350 5 &&
    cover_is (coverage_at 6 lines on_map) 0 0 &&
    cover_refused (coverage_at 5 lines (bad 2)) 2 &&
    blocks_are (blocks_at 5 lines on_map) 0 1_350 1_700 &&
    blocks_are (blocks_at 6 lines on_map) 0 0 0 &&
    refused_by (blocks_at 5 lines (bad 4)) 4
