-- Tests over lists and what they keep: what the definitions of choices and sets are made of. Assumes nothing.
use Rattle.std.specs.Prelude.{ℕ, zero, suc, Bool, cond, not, List, [], ◌∷◌, ◌++◌, eqb}
use Rattle.lists.specs.Sums.{any}

-- those that pass a test, in their order
unfoldable pub filter : {A : Type 0} → (A → Bool) → List A → List A
filter p [] = []
filter p (a ∷ l) = cond (p a) (a ∷ filter p l) (filter p l)

-- the numbers below n, ascending
unfoldable pub up_to : ℕ → List ℕ
up_to zero = []
up_to (suc n) = up_to n ++ (n ∷ [])

-- those that none of the list is ahead of, in their order
unfoldable pub foremost : {A : Type 0} → (ahead : A → A → Bool) → List A → List A
foremost ahead l = filter (λ a. not (any (λ b. ahead b a) l)) l

-- the first of a list, or what stands in where it has none
unfoldable pub first_or : {A : Type 0} → A → List A → A
first_or other [] = other
first_or other (a ∷ l) = a

-- a number is among some
abbrev pub among : ℕ → List ℕ → Bool
among n l = any (λ m. eqb n m) l
