-- How the code goes about the proposal: what its inner functions come to. The contract of `propose` cites none of this. Assumes nothing.
use Rattle.std.specs.Prelude.{ℕ, zero, suc, ◌-◌, ◌/◌, ◌%◌, ◌≤◌, ◌≡◌, cond, List, [], ◌∷◌, map, eqb, length, take, drop, replicate}
use Rattle.coverage.specs.declared.Holding.{Holding}
use Rattle.lists.specs.Sums.{All}
use Rattle.coverage.specs.Blocks.{size}
use Rattle.coverage.specs.Limits.{Limits}
use Rattle.search.specs.declared.Partial.{Partial}
use Rattle.search.specs.Choice.{Mark, out, whole, part}
use Rattle.proposal.specs.declared.AreaAnswer.{AreaAnswer}
use Rattle.proposal.specs.declared.parts.Partials.{Partials}
use Rattle.proposal.specs.Choices.{partials, total_value}
use Rattle.proposal.specs.Answer.{given}
use Rattle.proposal.specs.Promises.{area_means, blank}

-- the sizes and the weights of S, which are what the search reads
abbrev pub sizes : List Holding → List ℕ
sizes s = map size s

abbrev pub weights : List Holding → List ℕ
weights s = map (λ (a : Holding). a.weight) s

-- at most 32 areas, each within the map's limits
pub record Bounded (areas : List Holding) : Type 0 where
  pub few : length areas ≤ 32
  pub limits : All Limits areas

-- what the search reads of a partial area
abbrev pub asked_of : Holding → Partial
asked_of a = record { size = record { 0 = size a }; weight = a.weight }

-- what is gathered of the partial areas
pub record Gathered (areas : List Holding) (r : Partials) : Type 0 where
  pub count : r.count ≡ length (partials areas)
  pub target : r.target.0 ≡ total_value (partials areas)
  pub each : take r.count r.areas ≡ map asked_of (partials areas)
  pub few : r.count ≤ 32
  pub room : length r.areas ≡ 32

-- The search tells a choice by its entry e, which is 0 or one more than the place of the partial area, and its set number n.
-- the mark of the first area
unfoldable pub mark_of : (e n : ℕ) → Mark
mark_of e n = cond (eqb e 1) part (cond (eqb (n % 2) 1) whole out)

-- the marks of k areas
unfoldable pub decode : (k e n : ℕ) → List Mark
decode zero e n = []
decode (suc k) e n = mark_of e n ∷ decode k (e - 1) (n / 2)

-- what the entries of the areas say, and that the others of 32 are blank
pub record Settled (areas : List Holding) (kind sh e n : ℕ) (r : List AreaAnswer) : Type 0 where
  pub each : map area_means (take (length areas) r) ≡ given kind sh areas (decode (length (partials areas)) e n)
  pub past : drop (length areas) r ≡ replicate (32 - length areas) blank
