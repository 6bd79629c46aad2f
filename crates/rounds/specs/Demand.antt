-- Document 01, "The list of demand 3", and the user's demand 3: what is claimed of a footprint, in their words. Assumes nothing.
use Rattle.std.specs.Prelude.{ℕ, ◌≤◌, ◌<◌, ◌≡◌, Bool, true, false, List, length}
use Rattle.ring.specs.Ring.{Places}
use Rattle.rounds.specs.Footprint.{PartArea, places, value, overshoots, last_ring, ring_cells, remains, keeps}

-- a choice from the last ring, by the cells that it leaves out: a mark for each cell of B with people
abbrev pub FromLastRing : PartArea → (share : ℕ) → (f : Places) → List Bool → Type 0
FromLastRing a share f set = (overshoots a share f ≡ true) × (length set ≡ length (ring_cells a share f))

-- of the set g that a footprint marks, for the share and the set F. "A set of cells carries its V"
pub record Right (a : PartArea) (share : ℕ) (f g : Places) : Type 0 where
  -- "carries at least the partial share"
  pub at_least : share ≤ value a g
  -- "and exactly that if it has no last ring"
  pub exactly : overshoots a share f ≡ false → value a g ≡ share
  -- it is a choice from its last ring
  pub chosen : overshoots a share f ≡ true
      → (set : List Bool) × FromLastRing a share f set × ((i : ℕ) → i < places a → g i ≡ remains a share f set i)
  -- "Every other choice from its last ring that keeps the share carries at least as many weighted MHz-pops"
  pub none-less : (set : List Bool) → FromLastRing a share f set → keeps a share f set ≡ true → value a g ≤ value a (remains a share f set)
  -- "Cells of B without people stay in"
  pub stay-in : overshoots a share f ≡ true → (i : ℕ) → i < places a → last_ring a share f i ≡ true → a.people i ≡ 0 → g i ≡ true
