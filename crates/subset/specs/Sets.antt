-- Sets of the elements of a list, and their set numbers. Assumes nothing.
use Rattle.std.specs.Prelude.{ℕ, zero, suc, ◌+◌, ◌*◌, Bool, true, false, cond, List, [], ◌∷◌, ◌++◌, map}
use Rattle.lists.specs.Sums.{flag}

-- A set is a mark for each element in turn, true for taken.

-- "set number": "a binary number .. first area the ones place, 1 for whole"; in the footprint "first the ones place", 1 for left out
unfoldable pub set_number : List Bool → ℕ
set_number [] = 0
set_number (b ∷ set) = flag b + 2 * set_number set

-- the total of a set: the values of its elements, added
unfoldable pub total_of : (values : List ℕ) → List Bool → ℕ
total_of [] set = 0
total_of (v ∷ values) [] = 0
total_of (v ∷ values) (b ∷ set) = cond b v 0 + total_of values set

-- all sets of n elements
unfoldable pub sets : ℕ → List (List Bool)
sets zero = [] ∷ []
sets (suc n) = map (λ set. false ∷ set) (sets n) ++ map (λ set. true ∷ set) (sets n)

-- the elements of a list that a set takes
unfoldable pub taken_of : {A : Type 0} → List A → List Bool → List A
taken_of [] set = []
taken_of (a ∷ l) [] = []
taken_of (a ∷ l) (b ∷ set) = cond b (a ∷ taken_of l set) (taken_of l set)
