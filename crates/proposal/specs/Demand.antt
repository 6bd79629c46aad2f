-- Document 01, "The list of demand 3", and the user's demand 3: what is claimed of a proposal, in their words. Assumes nothing.
use Rattle.std.specs.Prelude.{ℕ, ◌%◌, ◌<◌, ◌≤◌, ◌≡◌, true, false, cond, ◌↔◌, length, get_or}
use mathlib.Core.List.{List, [], ◌∷◌, Memᴰ}
use Rattle.lists.specs.Sums.{any, count}
use Rattle.coverage.specs.declared.Holding.{Holding}
use Rattle.coverage.specs.Blocks.{partial}
use Rattle.search.specs.Choice.{Mark, out, whole, part}
use Rattle.proposal.specs.Choices.{partials, allowed, makes_part, no_part, set_number}
use Rattle.proposal.specs.Best.{rank, ahead, best, tied}
use Rattle.proposal.specs.Answer.{Gets, gets_nothing, gets_whole, gets_rounded_up, gets_share, Given, Proposal}

-- "As a choice, a proposal takes whole what gets whole, makes partial the area that is rounded up or gets a share, and leaves out the
-- rest of S"
unfoldable pub as_mark : Gets → Mark
as_mark gets_nothing = out
as_mark gets_whole = whole
as_mark gets_rounded_up = part
as_mark (gets_share n) = part

unfoldable pub as_choice : (areas : List Holding) → List Given → List Mark
as_choice [] given = []
as_choice (a ∷ areas) [] = []
as_choice (a ∷ areas) (g ∷ given) = cond (partial a) (as_mark g.gets ∷ as_choice areas given) (as_choice areas given)

-- an allowed choice from S: a mark for each area of S, and allowed
pub record AllowedFrom (s : List Holding) (c : List Mark) : Type 0 where
  pub each : length c ≡ length s
  pub is-allowed : allowed s c ≡ true

-- a choice that ranks level with another or behind it: it is not ahead
abbrev pub LevelOrBehind : (s : List Holding) → List Mark → List Mark → Type 0
LevelOrBehind s d c = ahead (rank s d) (rank s c) ≡ false

abbrev pub AllWhole : (s : List Holding) → List Mark → Type 0
AllWhole s c = (rank s c).all_whole ≡ true

-- "Each proposal that isn't refused is an allowed choice from document 01's S. Every other allowed choice .. ranks level with it or
-- behind it .. The proposal is all whole exactly when some allowed choice is": kinds 1 and 2 are all whole
pub record Right (areas : List Holding) (p : Proposal) : Type 0 where
  pub from-s : AllowedFrom (partials areas) (as_choice areas p.areas)
  pub none_ahead : (d : List Mark) → AllowedFrom (partials areas) d → LevelOrBehind (partials areas) d (as_choice areas p.areas)
  pub all_whole : (p.kind ≤ 2) ↔ ((d : List Mark) × AllowedFrom (partials areas) d × AllWhole (partials areas) d)

-- what else "The proposal" says of the choice c that wins among those from s, by the draw
pub record Wins (s : List Holding) (draw : ℕ) (c : List Mark) : Type 0 where
  -- it is one of the best-ranked choices
  pub is-best : Memᴰ c (best s)
  -- "The tied areas are the partial areas of best-ranked choices": the tied count is the number of areas partial in some best choice
  pub tied-areas : (p : ℕ) →
      Memᴰ p (tied s) ↔ ((p < length s) × ((d : List Mark) × Memᴰ d (best s) × (makes_part p d ≡ true)))
  pub tied-count : length (tied s) ≡ count (λ p. any (makes_part p) (best s)) (length s)
  -- "an exact answer has 0 of them", and no other has; else the partial area is "the area at place draw mod tied"
  pub exact : (no_part c ≡ true) ↔ (length (tied s) ≡ 0)
  pub drawn : 0 < length (tied s) → makes_part (get_or (tied s) (draw % length (tied s)) 0) c ≡ true
  -- "Among best choices with that area, or among exact ones, the smallest set number wins"
  pub least : (d : List Mark) → Memᴰ d (best s) → ((p : ℕ) → makes_part p d ≡ makes_part p c) → set_number c ≤ set_number d
