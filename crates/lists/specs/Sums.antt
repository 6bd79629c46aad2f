-- Sums, counts and tests over lists: what the definitions of several crates are made of. Assumes nothing.
use Rattle.std.specs.Prelude.{ℕ, zero, suc, ◌+◌, Bool, true, false, cond, ◌||◌, ◌&&◌, List, [], ◌∷◌}

-- the sum of what each element adds
abbrev pub total : {A : Type 0} → (A → ℕ) → List A → ℕ
total f [] = 0
total f (a ∷ l) = f a + total f l

-- some element passes a test
abbrev pub any : {A : Type 0} → (A → Bool) → List A → Bool
any p [] = false
any p (a ∷ l) = p a || any p l

-- every element has a property
abbrev pub All : {A : Type 0} → (A → Type 0) → List A → Type 0
All P [] = Unit {0}
All P (a ∷ l) = P a × All P l

-- 1 for true, 0 for false
abbrev pub flag : Bool → ℕ
flag b = cond b 1 0

-- how many numbers below n pass a test
unfoldable pub count : (ℕ → Bool) → (n : ℕ) → ℕ
count test zero = 0
count test (suc i) = count test i + flag (test i)

-- some number below n passes a test
unfoldable pub some_below : (ℕ → Bool) → (n : ℕ) → Bool
some_below test zero = false
some_below test (suc i) = some_below test i || test i

-- every number below n passes a test
unfoldable pub every_below : (ℕ → Bool) → (n : ℕ) → Bool
every_below test zero = true
every_below test (suc i) = every_below test i && test i

-- the sum, over the numbers below n that pass a test, of what each adds
unfoldable pub sum_below : (ℕ → ℕ) → (ℕ → Bool) → (n : ℕ) → ℕ
sum_below f test zero = 0
sum_below f test (suc i) = sum_below f test i + cond (test i) (f i) 0

-- the sum, over the numbers below n, of what each adds
abbrev pub sum_to : (ℕ → ℕ) → (n : ℕ) → ℕ
sum_to f n = sum_below f (λ _. true) n
