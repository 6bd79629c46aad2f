-- Document 01, "The proposal": S, T, the choices and which of them are allowed. Everything here computes. Assumes nothing.
use Rattle.std.specs.Prelude.{ℕ, zero, suc, ◌-◌, Bool, true, false, ◌&&◌, List, [], ◌∷◌, ◌++◌, map, ltb, eqb, length}
use Rattle.lists.specs.Sums.{total}
use Rattle.lists.specs.Filters.{filter}
use Rattle.coverage.specs.declared.Holding.{Holding}
use Rattle.coverage.specs.Blocks.{partial, value, size}
use Rattle.search.specs.Choice.{Mark, out, whole, part}
use Rattle.subset.specs.Sets as sets

-- "S is the list of partial areas, ascending", as the map's areas are
unfoldable pub partials : List Holding → List Holding
partials areas = filter partial areas

-- "T is the sum of v over S"
unfoldable pub total_value : List Holding → ℕ
total_value s = total value s

-- "To form a choice, each partial area in turn is left out, taken whole or made the one partial area": all lists of n marks
unfoldable pub choices : ℕ → List (List Mark)
choices zero = [] ∷ []
choices (suc n) = map (λ c. out ∷ c) (choices n) ++ (map (λ c. whole ∷ c) (choices n) ++ map (λ c. part ∷ c) (choices n))

-- "the whole areas" of a choice from s
unfoldable pub whole_areas : (s : List Holding) → List Mark → List Holding
whole_areas [] c = []
whole_areas (a ∷ s) [] = []
whole_areas (a ∷ s) (out ∷ c) = whole_areas s c
whole_areas (a ∷ s) (whole ∷ c) = a ∷ whole_areas s c
whole_areas (a ∷ s) (part ∷ c) = whole_areas s c

-- the areas of s that a choice makes partial; "the one partial area" where it is allowed
unfoldable pub part_areas : (s : List Holding) → List Mark → List Holding
part_areas [] c = []
part_areas (a ∷ s) [] = []
part_areas (a ∷ s) (out ∷ c) = part_areas s c
part_areas (a ∷ s) (whole ∷ c) = part_areas s c
part_areas (a ∷ s) (part ∷ c) = a ∷ part_areas s c

-- "the sizes of the whole areas", added
unfoldable pub whole_size : (s : List Holding) → List Mark → ℕ
whole_size s c = total size (whole_areas s c)

-- "the shortfall, written share"; 0 if the choice is exact
unfoldable pub share : (s : List Holding) → List Mark → ℕ
share s c = total_value s - whole_size s c

-- "A choice is allowed if the sizes of the whole areas add to T with no partial area (exact), or the shortfall, written share, is above
-- 0 and below the M of the partial area": by T, the whole areas' sizes and the partial areas
unfoldable pub allowed_by : (t sizes : ℕ) → (parts : List Holding) → Bool
allowed_by t sizes [] = eqb sizes t
allowed_by t sizes (a ∷ []) = ltb 0 (t - sizes) && ltb (t - sizes) (size a)
allowed_by t sizes (a ∷ b ∷ l) = false

unfoldable pub allowed : (s : List Holding) → List Mark → Bool
allowed s c = allowed_by (total_value s) (whole_size s c) (part_areas s c)

-- all allowed choices from s
unfoldable pub allowed_choices : (s : List Holding) → List (List Mark)
allowed_choices s = filter (allowed s) (choices (length s))

-- whether a mark is whole, and whether it is partial
abbrev pub is_whole : Mark → Bool
is_whole out = false
is_whole whole = true
is_whole part = false

abbrev pub is_part : Mark → Bool
is_part out = false
is_part whole = false
is_part part = true

-- the choice makes the area at place p of S partial, places from 0
unfoldable pub makes_part : ℕ → List Mark → Bool
makes_part p [] = false
makes_part zero (m ∷ c) = is_part m
makes_part (suc p) (m ∷ c) = makes_part p c

-- no area is partial: an allowed choice of this kind is "exact"
unfoldable pub no_part : List Mark → Bool
no_part [] = true
no_part (out ∷ c) = no_part c
no_part (whole ∷ c) = no_part c
no_part (part ∷ c) = false

-- the set that a choice takes whole
abbrev pub whole_set : List Mark → List Bool
whole_set c = map is_whole c

-- "set number": "a binary number over S, first area the ones place, 1 for whole"
abbrev pub set_number : List Mark → ℕ
set_number c = sets.set_number (whole_set c)
