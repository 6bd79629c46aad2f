-- Document 02, Paper 4: where every licence in force is 50 MHz wide, the proposal is document 01's. Assumes nothing.
use Rattle.std.specs.Prelude.{◌≡◌, List}
use Rattle.map.specs.Format.{Area, population}
use Rattle.register.specs.declared.Licence.{Licence}
use Rattle.coverage.specs.declared.Holding.{Holding}
use Rattle.coverage.specs.Cover.{holdings_of}
use Rattle.coverage.specs.Blocks as blocks
use Rattle.coverage.specs.FullWidth.{covered_people, whole_blocks, partial, value, size}
use Rattle.proposal.specs.Terms.{Pairwise, SameProposals}

-- what a proposal reads of an area (specs/Terms) is what document 01 says of an area of the map, with its c in people
pub record Document01 (licences : List Licence) (h : Holding) (a : Area) : Type 0 where
  pub number : h.number ≡ a.head.number
  pub weight : h.weight ≡ a.head.weight
  pub whole : blocks.whole_blocks h ≡ whole_blocks (population a.grid) (covered_people licences a)
  pub part : blocks.partial h ≡ partial (population a.grid) (covered_people licences a)
  pub value : blocks.value h ≡ value a.head.weight (population a.grid) (covered_people licences a)
  pub size : blocks.size h ≡ size a.head.weight (population a.grid)

-- the areas of the map have document 01's blocks, v and M; and whatever areas have those have the same proposals, so no other reading of
-- document 01 gives another one
pub record FullWidth (licences : List Licence) (areas : List Area) : Type 0 where
  pub terms : Pairwise (Document01 licences) (holdings_of licences areas) areas
  pub proposals : (hs : List Holding) → Pairwise (Document01 licences) hs areas → SameProposals (holdings_of licences areas) hs
