-- The answers in plain numbers: refusals by document 01's number, 0 for none, and 0 in every field that an answer says nothing of.
-- Assumes nothing.
use Rattle.std.specs.Prelude.{ℕ, ◌-◌, map, ◌++◌, length, replicate}
use Rattle.map.specs.declared.Area as found
use Rattle.map.specs.Answers.{LookedUp, refused, lacking, has}
use Rattle.coverage.specs.declared.AreaBlocks.{AreaBlocks}
use Rattle.coverage.specs.declared.CoverageSums.{CoverageSums}
use Rattle.coverage.specs.Answers as coverage
use Rattle.proposal.specs.Answer as proposal
use Rattle.proposal.specs.Answer.{Gets, gets_nothing, gets_whole, gets_rounded_up, gets_share}
use Rattle.footprint.specs.Promises.{Reply}
use Rattle.abi.specs.declared.FoundArea.{FoundArea}
use Rattle.abi.specs.declared.Covered.{Covered}
use Rattle.abi.specs.declared.Held.{Held}
use Rattle.abi.specs.declared.Given.{Given}
use Rattle.abi.specs.declared.FlatProposal.{FlatProposal}
use Rattle.abi.specs.declared.Outline.{Outline}

-- the version of the interface: another number wherever a struct, a function or a field's meaning is not what it was
abbrev pub version : ℕ
version = 3

-- ---- "When an area is looked up by its number"

-- a map that is refused, or lacks the number
abbrev pub no_area : (refusal : ℕ) → FoundArea
no_area n = record { refusal = n; weight = 0; rows = 0; columns = 0; population = 0; offset = 0; length = 0 }

-- an area by its head, its population and the part of the map that holds its rows
abbrev pub area_found : found.Area → FoundArea
area_found a = record {
  refusal = 0;
  weight = a.weight;
  rows = a.rows;
  columns = a.columns;
  population = a.population.0;
  offset = a.start;
  length = a.end - a.start;
}

abbrev pub flat_found : LookedUp → FoundArea
flat_found (refused n) = no_area n
flat_found lacking = no_area 0
flat_found (has a) = area_found a

-- ---- "Coverage and blocks"; document 02, Paper 1: "Coverage in an area now gives two numbers", the first of which is c in MHz-pops since
-- Paper 4

abbrev pub flat_covered : coverage.Answer CoverageSums → Covered
flat_covered (coverage.refused n) = record { mhz_pops = 0; cells = 0; refusal = n; unused = 0 }
flat_covered (coverage.answers c) = record { mhz_pops = c.mhz_pops.0; cells = c.cells.0; refusal = 0; unused = 0 }

abbrev pub flat_held : coverage.Answer AreaBlocks → Held
flat_held (coverage.refused n) = record { whole = 0; value = 0; size = 0; refusal = n; unused = 0 }
flat_held (coverage.answers b) = record { whole = b.whole; value = b.value.0; size = b.size.0; refusal = 0; unused = 0 }

-- ---- "The proposal": "what it gets (nothing, whole, rounded up, or share with its amount)"

abbrev pub gets_number : Gets → ℕ
gets_number gets_nothing = 0
gets_number gets_whole = 1
gets_number gets_rounded_up = 2
gets_number (gets_share amount) = 3

abbrev pub gets_amount : Gets → ℕ
gets_amount gets_nothing = 0
gets_amount gets_whole = 0
gets_amount gets_rounded_up = 0
gets_amount (gets_share amount) = amount

-- "for each map area its whole blocks and what it gets"; document 02, Paper 1: "The proposal shows the sum of cells for each map area"
abbrev pub flat_given : proposal.Given → Given
flat_given g = record {
  number = g.number;
  gets = gets_number g.gets;
  blocks = g.blocks;
  share = gets_amount g.gets;
  cells = g.cells;
}

-- what stands at an entry past the map's areas
abbrev pub none_given : Given
none_given = record { number = 0; gets = 0; blocks = 0; share = 0; cells = 0 }

-- "The answer: kind, T, white space, tied count, and for each map area ..", in 32 entries
unfoldable pub flat_proposal : proposal.Proposal → FlatProposal
flat_proposal p = record {
  refusal = p.refused;
  kind = p.kind;
  tied = p.tied;
  count = length p.areas;
  target = p.target;
  white_space = p.white;
  areas = map flat_given p.areas ++ replicate (32 - length p.areas) none_given;
}

-- ---- "The footprint": the refusal, the area's number, and the count needed at 8

abbrev pub outline_means : Outline → Reply
outline_means r = record { refused = r.refusal; needed = r.needed; area = r.area }
