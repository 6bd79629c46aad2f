-- The subset rule: among candidates the best-ranked ones, and of these the one of smallest set number. Assumes nothing.
use Rattle.std.specs.Prelude.{ℕ, ◌≤◌, ◌≡◌, Bool, false, List, ltb, leb, length, replicate}
use Rattle.lists.specs.Filters.{filter, foremost, first_or}
use Rattle.subset.specs.Sets.{set_number, total_of, sets}

-- "the smallest set number wins": of some candidates the first that none has a smaller set number than
unfoldable pub smallest : {A : Type 0} → (set_of : A → List Bool) → (other : A) → List A → A
smallest set_of other l = first_or other (foremost (λ a b. ltb (set_number (set_of a)) (set_number (set_of b))) l)

-- "the subset of greatest total": those that none has a greater total than
unfoldable pub greatest : (values : List ℕ) → List (List Bool) → List (List Bool)
greatest values l = foremost (λ a b. ltb (total_of values b) (total_of values a)) l

-- the sets of as many elements as there are values, with a total within a limit
unfoldable pub within : (values : List ℕ) → (limit : ℕ) → List (List Bool)
within values limit = filter (λ set. leb (total_of values set) limit) (sets (length values))

-- "the subset of greatest total .. then of smallest set number", the total being within a limit
unfoldable pub the_subset : (values : List ℕ) → (limit : ℕ) → List Bool
the_subset values limit = smallest (λ set. set) (replicate (length values) false) (greatest values (within values limit))

-- what the rule asks of a set
pub record Chosen (values : List ℕ) (limit : ℕ) (set : List Bool) : Type 0 where
  pub each : length set ≡ length values
  pub within : total_of values set ≤ limit
  pub greatest : (other : List Bool) → length other ≡ length values → total_of values other ≤ limit
      → total_of values other ≤ total_of values set
  pub least : (other : List Bool) → length other ≡ length values → total_of values other ≡ total_of values set
      → set_number set ≤ set_number other
