-- Laws of tests and sums over the numbers below n. Assumes nothing.
use Prim.Native.Nat.{ℕ, zero, suc, ◌+◌, ◌*◌, ◌≤◌, ◌<◌}
use mathlib.Core.Path.{◌≡◌, refl, sym, ap, ◌∙◌}
use mathlib.Core.Bool.{Bool, true, false, cond, ◌||◌, ◌&&◌, or-true, or-false, or_assoc}
use mathlib.Core.List.{List, [], ◌∷◌}
use native.Mathlib.Omega.{arith}
use native.Mathlib.Nat.{add-zero, add-suc, mul-suc, one-mul}
use native.Mathlib.Numerals.{add-one}
use lib.Dec.{eqb}
use lib.ListN.{get_or}
use borrow.Author.Tests.{eqb-true, eqb-false}
use Rattle.lists.specs.Sums.{total, flag, count, some_below, every_below, sum_below, sum_to}
use Rattle.lists.specs.Filters.{filter, up_to}
use Rattle.lists.proofs.Tests.{by-test, not-both, first_of, second-of}
use Rattle.lists.proofs.SumLaws.{total-append}
use Rattle.lists.proofs.FilterLaws.{filter-next}

-- ---- some number passes

module _ (test : ℕ → Bool) where
  pub none_below : (n : ℕ) → some_below test n ≡ false → (i : ℕ) → i < n → test i ≡ false
  unfolding some_below
  none_below zero h i l = absurd (omega arith)
  none_below (suc n) h i l =
      by-test (test n)
      (λ t. not-both (ap (λ (b : Bool). some_below test n || b) t ∙ or-true (some_below test n)) h)
      (λ t.
      let before : some_below test n ≡ false = sym (or-false (some_below test n)) ∙ sym (ap (λ (b : Bool). some_below test n || b) t) ∙ h in
      by-test (eqb i n)
      (λ q. ap test (eqb-true i n q) ∙ t)
      (λ q. let ne = eqb-false i n q in none_below n before i (omega arith)))

  pub some_below-at : (n i : ℕ) → i < n → test i ≡ true → some_below test n ≡ true
  some_below-at n i h t = by-test (some_below test n) (λ s. s) (λ s. not-both t (none_below n s i h))

  -- the first that passes
  pub record First (n : ℕ) : Type 0 where
    pub at : ℕ
    pub low : at < n
    pub passes : test at ≡ true
    pub none : (i : ℕ) → i < at → test i ≡ false

  pub first_below : (n : ℕ) → some_below test n ≡ true → First n
  unfolding some_below
  first_below zero h = not-both h refl
  first_below (suc n) h = by-test (some_below test n)
      (λ t.
      let r = first_below n t in
      let l = r.low in
      record { at = r.at; low = omega arith; passes = r.passes; none = r.none })
      (λ t. record { at = n; low = omega arith; passes = rw t at h; none = none_below n t })

-- the same numbers pass
pub some_same : (f g : ℕ → Bool) (n : ℕ) → ((i : ℕ) → i < n → f i ≡ g i) → some_below f n ≡ some_below g n
unfolding some_below
some_same f g zero h = refl
some_same f g (suc n) h = λ i. some_same f g n (λ k b. h k (omega arith)) i || h n (omega arith) i

-- the numbers below a + k are those below a, and k more
pub some-add : (test : ℕ → Bool) (a k : ℕ) → some_below test (a + k) ≡ some_below test a || some_below (λ j. test (a + j)) k
unfolding some_below
some-add test a zero = let e : a + 0 ≡ a = omega arith in rw e (sym (or-false (some_below test a)))
some-add test a (suc k) =
    let e : a + suc k ≡ suc (a + k) = omega arith in
    rw e
    (ap (λ (b : Bool). b || test (a + k)) (some-add test a k)
    ∙ or_assoc (some_below test a) (some_below (λ j. test (a + j)) k) (test (a + k)))

-- ---- every number passes

-- what every number below n passes, each does
pub every-below : (test : ℕ → Bool) (n : ℕ) → every_below test n ≡ true → (i : ℕ) → i < n → test i ≡ true
unfolding every_below
every-below test zero h i l = absurd (omega arith)
every-below test (suc n) h i l = by-test (eqb i n)
    (λ q. ap test (eqb-true i n q) ∙ second-of (every_below test n) (test n) h)
    (λ q. let ne = eqb-false i n q in every-below test n (first_of (every_below test n) (test n) h) i (omega arith))

-- the same numbers pass
pub every-same : (f g : ℕ → Bool) (n : ℕ) → ((i : ℕ) → i < n → f i ≡ g i) → every_below f n ≡ every_below g n
unfolding every_below
every-same f g zero h = refl
every-same f g (suc n) h = λ i. every-same f g n (λ k b. h k (omega arith)) i && h n (omega arith) i

-- two tests together
pub every-both : (f g : ℕ → Bool) (n : ℕ) → every_below (λ i. f i && g i) n ≡ every_below f n && every_below g n
unfolding every_below
every-both f g zero = refl
every-both f g (suc n) = ap (λ (b : Bool). b && (f n && g n)) (every-both f g n) ∙ turn (every_below f n) (every_below g n) (f n) (g n)
  where
    turn : (a b c d : Bool) → a && b && (c && d) ≡ a && c && (b && d)
    turn true true c d = refl
    turn true false true d = refl
    turn true false false d = refl
    turn false b c d = refl

-- ---- sums

-- one number more
pub sum-next : (f : ℕ → ℕ) (n : ℕ) → sum_to f n + f n ≡ sum_to f (n + 1)
unfolding sum_below
sum-next f n = ap (sum_to f) (sym (add-one n))

-- two sums whose terms make up those of a third
pub sum-add : (f g h : ℕ → ℕ) (n : ℕ) → ((i : ℕ) → i < n → f i + g i ≡ h i) → sum_to f n + sum_to g n ≡ sum_to h n
unfolding sum_below
sum-add f g h zero e = refl
sum-add f g h (suc n) e =
    let before = sum-add f g h n (λ i l. e i (omega arith)) in
    let last = e n (omega arith) in
    omega arith

-- a sum goes by what passes below n and by what that adds
pub sum_same : (f g : ℕ → ℕ) (p q : ℕ → Bool) (n : ℕ) → ((i : ℕ) → i < n → cond (p i) (f i) 0 ≡ cond (q i) (g i) 0)
    → sum_below f p n ≡ sum_below g q n
unfolding sum_below
sum_same f g p q zero h = refl
sum_same f g p q (suc n) h = λ i. sum_same f g p q n (λ k b. h k (omega arith)) i + h n (omega arith) i

-- the same numbers pass
pub sum-test : (f : ℕ → ℕ) (p q : ℕ → Bool) (n : ℕ) → ((i : ℕ) → i < n → p i ≡ q i) → sum_below f p n ≡ sum_below f q n
sum-test f p q n h = sum_same f f p q n (λ i b. ap (λ (t : Bool). cond t (f i) 0) (h i b))

-- two sums that make up a third
pub sum-split : (f : ℕ → ℕ) (p q r : ℕ → Bool) (n : ℕ)
    → ((i : ℕ) → i < n → cond (p i) (f i) 0 + cond (q i) (f i) 0 ≡ cond (r i) (f i) 0)
    → sum_below f p n + sum_below f q n ≡ sum_below f r n
unfolding sum_below
sum-split f p q r zero h = refl
sum-split f p q r (suc n) h =
    let a = sum-split f p q r n (λ i b. h i (omega arith)) in
    let b = h n (omega arith) in
    omega arith

-- a sum is that below a and that of the m numbers from a on
pub sum-from : (f : ℕ → ℕ) (p : ℕ → Bool) (a m : ℕ)
    → sum_below f p (a + m) ≡ sum_below f p a + sum_below (λ j. f (a + j)) (λ j. p (a + j)) m
unfolding sum_below
sum-from f p a zero = ap (sum_below f p) (add-zero a) ∙ sym (add-zero (sum_below f p a))
sum-from f p a (suc m) =
    let h = sum-from f p a m in
    ap (sum_below f p) (add-suc a m) ∙ omega arith

-- a sum of so many numbers, each at most k
pub sum-most : (f : ℕ → ℕ) (p : ℕ → Bool) (k n : ℕ) → ((i : ℕ) → i < n → f i ≤ k) → sum_below f p n ≤ k * n
unfolding sum_below
sum-most f p k zero h = omega arith
sum-most f p k (suc n) h =
    let a = sum-most f p k n (λ i l. h i (omega arith)) in
    let b = h n (omega arith) in
    by-test (p n) (λ t. rw t (omega (arith, mul-suc k n))) (λ t. rw t (omega (arith, mul-suc k n)))

-- a sum over the numbers below n that pass, as a list
pub sum-filter : (f : ℕ → ℕ) (p : ℕ → Bool) (n : ℕ) → total f (filter p (up_to n)) ≡ sum_below f p n
unfolding sum_below filter up_to
sum-filter f p zero = refl
sum-filter f p (suc n) =
    ap (total f) (filter-next p n)
    ∙ total-append f (filter p (up_to n)) (cond (p n) (n ∷ []) [])
    ∙ (λ i. sum-filter f p n i + last (p n) i)
  where
    last : (b : Bool) → total f (cond b (n ∷ []) []) ≡ cond b (f n) 0
    last true = omega arith
    last false = refl

-- where all that pass pass another test too, the sum is at most the other's
pub sum-least : (f : ℕ → ℕ) (p q : ℕ → Bool) (n : ℕ) → ((i : ℕ) → i < n → p i ≡ true → q i ≡ true)
    → sum_below f p n ≤ sum_below f q n
unfolding sum_below
sum-least f p q zero s = omega arith
sum-least f p q (suc n) s =
    let h = sum-least f p q n (λ i l. s i (omega arith)) in
    by-test (p n) (λ t. rw (t, s n (omega arith) t) (omega arith)) (λ t. rw t (omega arith))

-- where each adds 1 the sum is their number
pub sum_ones : (n : ℕ) → sum_to (λ _. 1) n ≡ n
unfolding sum_below
sum_ones zero = refl
sum_ones (suc n) = let h = sum_ones n in omega arith

-- where none passes the sum is 0
pub sum-none : (f : ℕ → ℕ) (p : ℕ → Bool) (n : ℕ) → ((i : ℕ) → i < n → p i ≡ false) → sum_below f p n ≡ 0
unfolding sum_below
sum-none f p zero h = refl
sum-none f p (suc n) h = rw (sum-none f p n (λ i l. h i (omega arith)), h n (omega arith))

-- nor where each adds 0
pub sum-zero : (f : ℕ → ℕ) (n : ℕ) → ((i : ℕ) → i < n → f i ≡ 0) → sum_to f n ≡ 0
sum-zero f n h = sum_same f f (λ _. true) (λ _. false) n h ∙ sum-none f (λ _. false) n (λ _ _. refl)

-- a count is a sum in which each number that passes adds 1
pub count-sum : (test : ℕ → Bool) (n : ℕ) → count test n ≡ sum_to (λ i. 1 * flag (test i)) n
unfolding count sum_below
count-sum test zero = refl
count-sum test (suc n) = λ i. count-sum test n i + sym (one-mul (flag (test n))) i

-- a sum begins with what 0 adds
sum_first : (f : ℕ → ℕ) (n : ℕ) → sum_to f (suc n) ≡ f 0 + sum_to (λ i. f (suc i)) n
unfolding sum_below
sum_first f zero = omega arith
sum_first f (suc n) = let h = sum_first f n in omega arith

-- a sum over a list, by place, up to where no later place adds to it
pub sum-total : {A : Type 0} (f : A → ℕ) (d : A) (l : List A) (n : ℕ) → ((i : ℕ) → n ≤ i → f (get_or l i d) ≡ 0) →
    sum_to (λ i. f (get_or l i d)) n ≡ total f l
unfolding sum_below
sum-total f d [] n h = sum-zero (λ _. f d) n (λ i b. h n (omega arith))
sum-total f d (a ∷ l) zero h = λ i. sym (h 0 (omega arith)) i + sum-total f d l zero (λ k b. h (suc k) (omega arith)) i
sum-total f d (a ∷ l) (suc n) h =
    sum_first (λ i. f (get_or (a ∷ l) i d)) n
    ∙ ap (λ (m : ℕ). f a + m) (sum-total f d l n (λ k b. h (suc k) (omega arith)))
