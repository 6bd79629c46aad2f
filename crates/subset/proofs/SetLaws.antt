-- Laws of sets and set numbers, for lists of any length. Assumes nothing.
use Prim.Native.Nat.{ℕ, zero, suc, ◌+◌, ◌^◌, ◌<◌}
use mathlib.Core.Path.{◌≡◌, refl, ap, ◌∙◌}
use mathlib.Core.Bool.{Bool, true, false, cond}
use mathlib.Core.Logic.{⊎_elim}
use mathlib.Core.List.Memᴰ
use mathlib.Core.List.{List, [], ◌∷◌, ◌++◌, map, Memᴰ}
use native.Mathlib.Nat.{pow-suc}
use native.Mathlib.Omega.{arith}
use lib.ListN.{length, replicate}
use Rattle.lists.specs.Sums.{total}
use Rattle.lists.specs.Filters.{filter}
use Rattle.lists.proofs.FilterLaws.{mem-map, map-mem}
use Rattle.subset.specs.Sets.{set_number, total_of, sets, taken_of}

abbrev put : Bool → List Bool → List Bool
put b set = b ∷ set

-- the sets of n elements are the lists of n marks
pub in-sets : (n : ℕ) (set : List Bool) → length set ≡ n → Memᴰ set (sets n)
unfolding sets
in-sets zero [] h = Memᴰ.head refl
in-sets zero (b ∷ set) h = absurd (omega arith)
in-sets (suc n) [] h = absurd (omega arith)
in-sets (suc n) (false ∷ set) h = Memᴰ.append_left _ (mem-map (put false) (sets n) set (in-sets n set (omega arith)))
in-sets (suc n) (true ∷ set) h =
    Memᴰ.append_right (map (put false) (sets n)) (mem-map (put true) (sets n) set (in-sets n set (omega arith)))

pub sets-length : (n : ℕ) (set : List Bool) → Memᴰ set (sets n) → length set ≡ n
unfolding sets
sets-length zero set m = ⊎_elim (λ s. ap length s) (λ t. absurd (Memᴰ.not-nil t)) (Memᴰ.cases_cons m)
sets-length (suc n) set m = ⊎_elim
    (λ a. longer false a (sets-length n))
    (λ b. longer true b (sets-length n))
    (Memᴰ.append_cases (map (put false) (sets n)) m)
  where
    longer : (b : Bool) → Memᴰ set (map (put b) (sets n)) → ((s : List Bool) → Memᴰ s (sets n) → length s ≡ n)
        → length set ≡ suc n
    longer b a rec = let r = map-mem (put b) (sets n) set a in ap length r.2 ∙ ap suc (rec r.0 r.1)

-- a set number has one binary place for each element
pub number-below : (set : List Bool) → set_number set < 2 ^ length set
unfolding set_number
number-below [] = omega arith
number-below (true ∷ set) = omega (arith, pow-suc 2 (length set), number-below set)
number-below (false ∷ set) = omega (arith, pow-suc 2 (length set), number-below set)

-- an element more at the end has the next binary place
pub number-last : (set : List Bool) (b : Bool) → set_number (set ++ (b ∷ [])) ≡ set_number set + cond b (2 ^ length set) 0
unfolding set_number
number-last [] true = refl
number-last [] false = refl
number-last (a ∷ set) true = omega (arith, number-last set true, pow-suc 2 (length set))
number-last (a ∷ set) false = omega (arith, number-last set false)

-- no two sets of one list share a set number
pub number_same : (a b : List Bool) → length a ≡ length b → set_number a ≡ set_number b → a ≡ b
unfolding set_number
number_same [] [] l h = refl
number_same [] (b ∷ s) l h = absurd (omega arith)
number_same (a ∷ s) [] l h = absurd (omega arith)
number_same (true ∷ a) (true ∷ b) l h = ap (put true) (number_same a b (omega arith) (omega arith))
number_same (true ∷ a) (false ∷ b) l h = absurd (omega arith)
number_same (false ∷ a) (true ∷ b) l h = absurd (omega arith)
number_same (false ∷ a) (false ∷ b) l h = ap (put false) (number_same a b (omega arith) (omega arith))

-- the set of nothing has the total 0
pub total-none : (values : List ℕ) (n : ℕ) → total_of values (replicate n false) ≡ 0
unfolding total_of
total-none [] n = refl
total-none (v ∷ values) zero = refl
total-none (v ∷ values) (suc n) = omega (arith, total-none values n)

-- ---- sets whose marks are the answers of a test

pub total-marks : {A : Type 0} (value : A → ℕ) (f : A → Bool) (l : List A)
    → total_of (map value l) (map f l) ≡ total (λ a. cond (f a) (value a) 0) l
unfolding total_of
total-marks value f [] = refl
total-marks value f (a ∷ l) = ap (λ (n : ℕ). cond (f a) (value a) 0 + n) (total-marks value f l)

pub taken-marks : {A : Type 0} (f : A → Bool) (l : List A) → taken_of l (map f l) ≡ filter f l
unfolding taken_of filter
taken-marks f [] = refl
taken-marks f (a ∷ l) = rw (taken-marks f l)
