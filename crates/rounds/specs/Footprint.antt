-- Document 01, "The footprint", from the partial area by place, the set F and the share. Everything here computes. Assumes nothing.
use Rattle.std.specs.Prelude.{ℕ, zero, suc, ◌+◌, ◌-◌, ◌*◌, ◌/◌, ◌≡◌, Bool, true, false, cond, not, ◌&&◌, ◌||◌}
use Rattle.std.specs.Prelude.{List, map, leb, ltb, eqb, length, replicate}
use Rattle.lists.specs.Sums.{sum_below}
use Rattle.lists.specs.Filters.{filter, up_to, among}
use Rattle.subset.specs.Sets.{sets, taken_of}
use Rattle.subset.specs.Rule.{smallest, greatest}
use Rattle.ring.specs.Ring.{Places, ring}

-- the partial area: its rows, columns and weight, the places that have a cell, and the people of each place
pub record PartArea : Type 0 where
  pub rows : ℕ
  pub columns : ℕ
  pub weight : ℕ
  pub cells : Places
  pub people : ℕ → ℕ

abbrev pub places : PartArea → ℕ
places a = a.rows * a.columns

-- "V of a set is 100 × weight × its people"
unfoldable pub value : PartArea → Places → ℕ
value a f = 100 * a.weight * sum_below a.people f (places a)

-- "F and B", "F without B"
abbrev pub both : Places → Places → Places
both f b i = f i || b i

abbrev pub without : Places → Places → Places
without f b i = f i && not (b i)

-- B, growing (true) or shrinking (false)
abbrev pub ring_of : PartArea → (grow : Bool) → Places → Places
ring_of a grow f = ring grow a.cells f (places a) a.columns

-- "B joins F", "B leaves F"
abbrev pub step : (grow : Bool) → (f b : Places) → Places
step true f b = both f b
step false f b = without f b

-- "While V(F and B) ≤ share", "While V(F without B) ≥ share"
abbrev pub in_share : (grow : Bool) → (v share : ℕ) → Bool
in_share true v share = leb v share
in_share false v share = leb share v

-- a round is made: "equality ends it", and before the first round "If V(F) equals share, F is the answer"
unfoldable pub goes_on : PartArea → (share : ℕ) → (grow : Bool) → Places → Bool
goes_on a share grow f = not (eqb (value a f) share) && in_share grow (value a (step grow f (ring_of a grow f))) share

-- F after the rounds, k at most
unfoldable pub rounds : PartArea → (share : ℕ) → (grow : Bool) → (k : ℕ) → Places → Places
rounds a share grow zero f = f
rounds a share grow (suc k) f = cond (goes_on a share grow f) (rounds a share grow k (step grow f (ring_of a grow f))) f

-- "While", with no count of rounds: f leads to itself where no round is made, and else to what the next set leads to
pub data Leads (a : PartArea) (share : ℕ) (grow : Bool) : Places → Places → Type 0 where
  stays : (f : Places) → goes_on a share grow f ≡ false → Leads a share grow f f
  goes : (f g : Places) → goes_on a share grow f ≡ true → Leads a share grow (step grow f (ring_of a grow f)) g → Leads a share grow f g

-- "If less" F grows, "if more" it shrinks
unfoldable pub growing : PartArea → (share : ℕ) → Places → Bool
growing a share f = ltb (value a f) share

-- F where the rounds end: each round changes a place, so as many rounds as places are enough (proofs/Rounds, `leads`)
unfoldable pub last_set : PartArea → (share : ℕ) → Places → Places
last_set a share f = rounds a share (growing a share f) (places a) f

-- "When that would overshoot": the rounds end without equality, so there is a last ring
unfoldable pub overshoots : PartArea → (share : ℕ) → Places → Bool
overshoots a share f = not (eqb (value a (last_set a share f)) share)

-- "B is the last ring"
unfoldable pub last_ring : PartArea → (share : ℕ) → Places → Places
last_ring a share f = ring_of a (growing a share f) (last_set a share f)

-- "the outer set is F and B when growing, F when shrinking"
unfoldable pub outer : PartArea → (share : ℕ) → Places → Places
outer a share f = cond (growing a share f) (both (last_set a share f) (last_ring a share f)) (last_set a share f)

-- "The slack is (V(outer) - share) / (100 × weight), rounded down"
unfoldable pub slack : PartArea → (share : ℕ) → Places → ℕ
slack a share f = (value a (outer a share f) - share) / (100 * a.weight)

-- "cells of B with people, by row then column"
unfoldable pub ring_cells : PartArea → (share : ℕ) → Places → List ℕ
ring_cells a share f = filter (λ i. last_ring a share f i && ltb 0 (a.people i)) (up_to (places a))

-- "A choice from the last ring is what remains of the outer set when none, some or all of the cells of B with people above 0 are left
-- out": a set of those cells says which
unfoldable pub remains : PartArea → (share : ℕ) → Places → List Bool → Places
remains a share f set = without (outer a share f) (λ i. among i (taken_of (ring_cells a share f) set))

-- "it keeps the share if its V is at least share": "V(rest) ≥ share"
unfoldable pub keeps : PartArea → (share : ℕ) → Places → List Bool → Bool
keeps a share f set = leb share (value a (remains a share f set))

-- "the subset of greatest total with V(rest) ≥ share, then of smallest set number"
unfoldable pub left_out : PartArea → (share : ℕ) → Places → List Bool
left_out a share f =
    let cells = ring_cells a share f in
    smallest (λ set. set) (replicate (length cells) false)
    (greatest (map a.people cells) (filter (keeps a share f) (sets (length cells))))

-- the footprint
unfoldable pub footprint : PartArea → (share : ℕ) → Places → Places
footprint a share f = cond (overshoots a share f) (remains a share f (left_out a share f)) (last_set a share f)

-- "a lent table of u16 with slack + 1 entries, or none if there is no last ring"
unfoldable pub needed : PartArea → (share : ℕ) → Places → ℕ
needed a share f = cond (overshoots a share f) (slack a share f + 1) 0
