-- The subset rule, evaluated on a table of cases. Assumes nothing.
use Rattle.std.specs.Prelude.{ℕ, ◌≡◌, refl, Bool, true, false, List, [], ◌∷◌, map}
use Rattle.subset.specs.Sets.{set_number, total_of, sets}
use Rattle.subset.specs.Rule.{smallest, greatest, within, the_subset}
use Rattle.lists.specs.Filters.{filter, foremost, first_or}

-- values, a limit, and the set that comes
pub record Row : Type 0 where
  pub values : List ℕ
  pub limit : ℕ
  pub set : List Bool

abbrev pub row : List ℕ → ℕ → List Bool → Row
row values limit set = record { values = values; limit = limit; set = set }

abbrev pub rows : List Row
rows =
    -- no values, and a limit of 0
    row [] 5 [] ∷
    row (7 ∷ 4 ∷ []) 0 (false ∷ false ∷ []) ∷
    -- a total may equal the limit, and not pass it
    row (4 ∷ []) 4 (true ∷ []) ∷
    row (4 ∷ []) 3 (false ∷ []) ∷
    row (4 ∷ 4 ∷ []) 100 (true ∷ true ∷ []) ∷
    -- the greatest total before the smallest set number
    row (2 ∷ 3 ∷ []) 4 (false ∷ true ∷ []) ∷
    row (2 ∷ 3 ∷ 4 ∷ []) 6 (true ∷ false ∷ true ∷ []) ∷
    -- at one total the smallest set number: the earlier elements
    row (2 ∷ 2 ∷ 2 ∷ []) 4 (true ∷ true ∷ false ∷ []) ∷
    row (5 ∷ 3 ∷ 2 ∷ []) 5 (true ∷ false ∷ false ∷ []) ∷
    row (3 ∷ 2 ∷ 5 ∷ []) 5 (true ∷ true ∷ false ∷ []) ∷
    -- a value of 0 stays out
    row (0 ∷ 3 ∷ []) 3 (false ∷ true ∷ []) ∷
    -- "Holdings to prove by hand count" 10 and 12: people of the last ring's cells, and the slack
    row (4 ∷ 3 ∷ []) 3 (false ∷ true ∷ []) ∷
    row (8 ∷ []) 4 (false ∷ []) ∷
    []

pub rows-hold : map (λ r. the_subset r.values r.limit) rows ≡ map (λ r. r.set) rows
unfolding the_subset smallest greatest within sets set_number total_of filter foremost first_or
rows-hold = refl
