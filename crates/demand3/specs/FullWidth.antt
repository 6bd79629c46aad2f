-- Document 02, Paper 4, in lists: what a list of document 01's own calls comes to, in which no grant has a width. Assumes nothing.
use Rattle.std.specs.Prelude.{ℕ, ◌≡◌, List, []}
use Rattle.lists.specs.Sums.{All}
use Rattle.map.specs.Reading.{good}
use Rattle.map.specs.Format.{Area, read_map}
use Rattle.proposal.specs.FullWidth.{FullWidth}
use Rattle.demand3.specs.Calls.{without, mhz, Call, grant, cancel, propose, footprint}
use Rattle.demand3.specs.Ledger.{ledger}

-- a call as document 01 has it: a grant is without a width
abbrev pub WithoutWidth : Call → Type 0
WithoutWidth (grant s g without) = Unit {0}
WithoutWidth (grant s g (mhz n)) = ⊥
WithoutWidth (cancel s) = Unit {0}
WithoutWidth (propose draw) = Unit {0}
WithoutWidth (footprint draw mask table) = Unit {0}

-- after any such calls, over an accepted map, the ledger's lines have document 01's blocks, v and M in every area, and document 01's
-- proposals
abbrev pub ListsAsBefore : Type 0
ListsAsBefore = (cs : List Call) → All WithoutWidth cs
    → (map : List ℕ) (areas : List Area) (end : ℕ) → read_map map ≡ good areas end → FullWidth (ledger [] cs) areas
