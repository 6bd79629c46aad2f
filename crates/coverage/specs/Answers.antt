-- What the answers of coverage and blocks are: refused by 1 to 5, and zeros for a number that the map lacks. Assumes nothing.
use Rattle.std.specs.Prelude.{ℕ, List, Result, Ok, Err}
use Rattle.map.specs.Reading.{Read, bad, good}
use Rattle.map.specs.Format.{Area}
use Rattle.map.specs.declared.Area as handed
use Rattle.map.specs.declared.Fault.{Fault}
use Rattle.map.specs.Answers.{fault_number, Located, none, some, locate}
use Rattle.register.specs.declared.Licence.{Licence}
use Rattle.coverage.specs.declared.Holding.{Holding}
use Rattle.coverage.specs.declared.AreaBlocks.{AreaBlocks}
use Rattle.coverage.specs.declared.CoverageSums.{CoverageSums}
use Rattle.coverage.specs.Cover.{coverage_sums, holding_of}
use Rattle.coverage.specs.Blocks.{blocks_of}

-- refused by document 01's number, or answered
pub data Answer (A : Type 0) : Type 0 where
  refused : ℕ → Answer A
  answers : A → Answer A

-- what is made of an area that was looked up, or of its lack
abbrev pub of_located : {A : Type 0} → (lacking : A) → (Area → A) → Located → A
of_located lacking f none = lacking
of_located lacking f (some a) = f a

-- "Coverage or blocks of one area: 1 to 5, and zeros for a number that the map lacks"
abbrev pub of_map : {A : Type 0} → (number : ℕ) → (zeros : A) → (Area → A) → Read (List Area) → Answer A
of_map number zeros f (bad n) = refused n
of_map number zeros f (good areas e) = answers (of_located zeros f (locate number areas))

abbrev pub no_sums : CoverageSums
no_sums = record { mhz_pops = record { 0 = 0 }; cells = record { 0 = 0 } }

-- c and the sum of cells of the area with a number
unfoldable pub coverage_at : (number : ℕ) → List Licence → Read (List Area) → Answer CoverageSums
coverage_at number licences = of_map number no_sums (coverage_sums licences)

abbrev pub no_blocks : AreaBlocks
no_blocks = record { whole = 0; value = record { 0 = 0 }; size = record { 0 = 0 } }

-- the blocks of the area with a number
unfoldable pub blocks_at : (number : ℕ) → List Licence → Read (List Area) → Answer AreaBlocks
blocks_at number licences = of_map number no_blocks (λ a. blocks_of (holding_of licences a))

-- what the two functions answer
abbrev pub answer_of : {A : Type 0} → Result A Fault → Answer A
answer_of (Err f) = refused (fault_number f)
answer_of (Ok a) = answers a

-- ---- what stands past the areas of a map

abbrev pub no_holding : Holding
no_holding = record { number = 0; weight = 0; population = record { 0 = 0 }; covered = record { 0 = 0 }; cells = record { 0 = 0 } }

abbrev pub no_area : handed.Area
no_area = record { number = 0; weight = 0; rows = 0; columns = 0; population = record { 0 = 0 }; start = 0; end = 0 }
