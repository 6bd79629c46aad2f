-- Laws of filters, of tests over lists, of the foremost elements and of the numbers below n. Assumes nothing.
use Prim.Native.Nat.{ℕ, zero, suc, ◌<◌}
use mathlib.Core.Path.{◌≡◌, refl, sym, ap, subst, ◌∙◌}
use mathlib.Core.Bool.{Bool, true, false, cond, not, ◌||◌, true≢false, false≢true}
use mathlib.Core.Logic.{◌⊎◌, inl, inr, ⊎_elim}
use mathlib.Core.List.Memᴰ
use mathlib.Core.List.{List, [], ◌∷◌, ◌++◌, map, Memᴰ}
use native.Mathlib.Nat.{eq-or-lt_of_le}
use native.Mathlib.Omega.{arith}
use lib.Dec.{ltb, eqb}
use borrow.Author.Tests.{ltb-true, ltb-false, le-ltb, eqb-true, eq-eqb}
use Rattle.lists.specs.Sums.{any}
use Rattle.lists.specs.Filters.{filter, up_to, foremost, first_or, among}
use Rattle.lists.proofs.Tests.{by-test}

module _ {A : Type 0} (f : A → Bool) where
  -- what a filter keeps stands in the list and passes the test, and the reverse
  pub mem-filter : (l : List A) (x : A) → Memᴰ x (filter f l) → Memᴰ x l × (f x ≡ true)
  unfolding filter
  mem-filter [] x m = absurd (Memᴰ.not-nil m)
  mem-filter (y ∷ l) x m = go (mem-filter l x) (f y) refl m
    where
      go : (Memᴰ x (filter f l) → Memᴰ x l × (f x ≡ true)) → (b : Bool) → f y ≡ b
          → Memᴰ x (cond b (y ∷ filter f l) (filter f l)) → Memᴰ x (y ∷ l) × (f x ≡ true)
      go rec true e n = ⊎_elim
          (λ s. (Memᴰ.head s, subst (λ (z : A). f z ≡ true) (sym s) e))
          (λ t. let r = rec t in (Memᴰ.tail r.0, r.1))
          (Memᴰ.cases_cons n)
      go rec false e n = let r = rec n in (Memᴰ.tail r.0, r.1)

  pub filter-mem : (l : List A) (x : A) → Memᴰ x l → f x ≡ true → Memᴰ x (filter f l)
  unfolding filter
  filter-mem [] x m h = absurd (Memᴰ.not-nil m)
  filter-mem (y ∷ l) x m h = go (λ n. filter-mem l x n h) (f y) refl (Memᴰ.cases_cons m)
    where
      go : (Memᴰ x l → Memᴰ x (filter f l)) → (b : Bool) → f y ≡ b
          → (x ≡ y) ⊎ Memᴰ x l → Memᴰ x (cond b (y ∷ filter f l) (filter f l))
      go rec true e (inl s) = Memᴰ.head s
      go rec true e (inr n) = Memᴰ.tail (rec n)
      go rec false e (inl s) = absurd (true≢false (sym h ∙ ap f s ∙ e))
      go rec false e (inr n) = rec n

  -- `any` is a claim about some member
  pub any_some : (l : List A) → any f l ≡ true → (x : A) × Memᴰ x l × (f x ≡ true)
  any_some [] h = absurd (false≢true h)
  any_some (y ∷ l) h = go (any_some l) (f y) refl h
    where
      go : (any f l ≡ true → (x : A) × Memᴰ x l × (f x ≡ true)) → (b : Bool) → f y ≡ b
          → b || any f l ≡ true → (x : A) × Memᴰ x (y ∷ l) × (f x ≡ true)
      go rec true e g = (y, Memᴰ.head refl, e)
      go rec false e g = let r = rec g in (r.0, Memᴰ.tail r.1, r.2)

  pub some-any : (l : List A) (x : A) → Memᴰ x l → f x ≡ true → any f l ≡ true
  some-any [] x m h = absurd (Memᴰ.not-nil m)
  some-any (y ∷ l) x m h = go (λ n. some-any l x n h) (f y) refl (Memᴰ.cases_cons m)
    where
      go : (Memᴰ x l → any f l ≡ true) → (b : Bool) → f y ≡ b → (x ≡ y) ⊎ Memᴰ x l → b || any f l ≡ true
      go rec true e n = refl
      go rec false e (inl s) = absurd (true≢false (sym h ∙ ap f s ∙ e))
      go rec false e (inr n) = rec n

  -- no member passes the test
  pub any_none : (l : List A) → any f l ≡ false → (x : A) → Memᴰ x l → f x ≡ false
  any_none l h x m = by-test (f x) (λ t. absurd (true≢false (sym (some-any l x m t) ∙ h))) (λ e. e)

  pub none_any : (l : List A) → ((x : A) → Memᴰ x l → f x ≡ false) → any f l ≡ false
  none_any l h = by-test (any f l)
      (λ t. let s = any_some l t in absurd (true≢false (sym s.2 ∙ h s.0 s.1)))
      (λ e. e)

  pub filter-append : (l k : List A) → filter f (l ++ k) ≡ filter f l ++ filter f k
  unfolding filter
  filter-append [] k = refl
  filter-append (y ∷ l) k = go (f y) (filter-append l k)
    where
      go : (b : Bool) → filter f (l ++ k) ≡ filter f l ++ filter f k
          → cond b (y ∷ filter f (l ++ k)) (filter f (l ++ k)) ≡ cond b (y ∷ filter f l) (filter f l) ++ filter f k
      go true e = ap (λ (q : List A). y ∷ q) e
      go false e = e

-- tests that agree on a list keep the same of it
pub filter_same : {A : Type 0} (p q : A → Bool) (l : List A) → ((x : A) → Memᴰ x l → p x ≡ q x) → filter p l ≡ filter q l
unfolding filter
filter_same p q [] h = refl
filter_same p q (y ∷ l) h =
    rw (h y (Memᴰ.head refl), filter_same p q l (λ x m. h x (Memᴰ.tail m)))

-- a number among some is a member, and the reverse
pub among-mem : (l : List ℕ) (i : ℕ) → among i l ≡ true → Memᴰ i l
among-mem l i h =
    let r = any_some (λ (m : ℕ). eqb i m) l h in
    subst (λ (j : ℕ). Memᴰ j l) (sym (eqb-true i r.0 r.2)) r.1

pub mem-among : (l : List ℕ) (i : ℕ) → Memᴰ i l → among i l ≡ true
mem-among l i m = some-any (λ (m : ℕ). eqb i m) l i m (eq-eqb i i refl)

-- ---- members of a mapped list

pub mem-map : {A B : Type 0} (f : A → B) (l : List A) (x : A) → Memᴰ x l → Memᴰ (f x) (map f l)
mem-map f [] x m = absurd (Memᴰ.not-nil m)
mem-map f (y ∷ l) x m = ⊎_elim
    (λ s. Memᴰ.head (ap f s))
    (λ n. Memᴰ.tail (mem-map f l x n))
    (Memᴰ.cases_cons m)

pub map-mem : {A B : Type 0} (f : A → B) (l : List A) (y : B) → Memᴰ y (map f l) → (x : A) × Memᴰ x l × (y ≡ f x)
map-mem f [] y m = absurd (Memᴰ.not-nil m)
map-mem f (z ∷ l) y m = ⊎_elim
    (λ s. (z, Memᴰ.head refl, s))
    (λ n. let r = map-mem f l y n in (r.0, Memᴰ.tail r.1, r.2))
    (Memᴰ.cases_cons m)

-- functions that agree on a list make the same of it
pub map_same : {A B : Type 0} (f g : A → B) (l : List A) → ((x : A) → Memᴰ x l → f x ≡ g x) → map f l ≡ map g l
map_same f g [] h = refl
map_same f g (y ∷ l) h = rw (h y (Memᴰ.head refl), map_same f g l (λ x m. h x (Memᴰ.tail m)))

-- ---- the numbers below n

pub in-up_to : (n p : ℕ) → p < n → Memᴰ p (up_to n)
unfolding up_to
in-up_to zero p h = absurd (omega arith)
in-up_to (suc n) p h = ⊎_elim
    (λ e. Memᴰ.append_right (up_to n) (Memᴰ.head (omega arith)))
    (λ l. Memᴰ.append_left _ (in-up_to n p (omega arith)))
    (eq-or-lt_of_le h)

pub up_to-below : (n p : ℕ) → Memᴰ p (up_to n) → p < n
unfolding up_to
up_to-below zero p m = absurd (Memᴰ.not-nil m)
up_to-below (suc n) p m = ⊎_elim
    (λ a. omega (arith, up_to-below n p a))
    (λ b. ⊎_elim (λ e. omega arith) (λ x. absurd (Memᴰ.not-nil x)) (Memᴰ.cases_cons b))
    (Memᴰ.append_cases (up_to n) m)

-- tests that agree below n keep the same of the numbers below n
pub filter-below : (p q : ℕ → Bool) (n : ℕ) → ((i : ℕ) → i < n → p i ≡ q i) → filter p (up_to n) ≡ filter q (up_to n)
filter-below p q n h = filter_same p q (up_to n) (λ i m. h i (up_to-below n i m))

-- one number more
pub filter-next : (p : ℕ → Bool) (n : ℕ) → filter p (up_to (suc n)) ≡ filter p (up_to n) ++ cond (p n) (n ∷ []) []
unfolding up_to filter
filter-next p n = filter-append p (up_to n) (n ∷ [])

-- ---- the first and the foremost

pub first-in : {A : Type 0} (other : A) (l : List A) (a : A) → Memᴰ a l → Memᴰ (first_or other l) l
unfolding first_or
first-in other [] a m = absurd (Memᴰ.not-nil m)
first-in other (b ∷ l) a m = Memᴰ.head refl

module _ {A : Type 0} (ahead : A → A → Bool) where
  -- a foremost element stands in the list and none of the list is ahead of it, and the reverse
  pub mem-foremost : (l : List A) (a : A) → Memᴰ a (foremost ahead l)
      → Memᴰ a l × ((b : A) → Memᴰ b l → ahead b a ≡ false)
  unfolding foremost
  mem-foremost l a m =
      let r = mem-filter (λ (c : A). not (any (λ (b : A). ahead b c) l)) l a m in
      (r.0, any_none (λ (b : A). ahead b a) l (not-holds (any (λ (b : A). ahead b a) l) r.1))
    where
      not-holds : (t : Bool) → not t ≡ true → t ≡ false
      not-holds true h = absurd (false≢true h)
      not-holds false h = refl

  pub foremost-mem : (l : List A) (a : A) → Memᴰ a l → ((b : A) → Memᴰ b l → ahead b a ≡ false)
      → Memᴰ a (foremost ahead l)
  unfolding foremost
  foremost-mem l a m h =
      filter-mem (λ (c : A). not (any (λ (b : A). ahead b c) l)) l a m (ap not (none_any (λ (b : A). ahead b a) l h))

-- a list with a member has one of least number
pub least-some : {A : Type 0} (f : A → ℕ) (l : List A) (a : A) → Memᴰ a l
    → (c : A) × Memᴰ c l × ((b : A) → Memᴰ b l → ltb (f b) (f c) ≡ false)
least-some f [] a m = absurd (Memᴰ.not-nil m)
least-some f (x ∷ []) a m = (
  x,
  Memᴰ.head refl,
  λ b n. ⊎_elim
      (λ s. le-ltb (f b) (f x) (omega (arith, ap f s)))
      (λ t. absurd (Memᴰ.not-nil t))
      (Memᴰ.cases_cons n),
)
least-some {A} f (x ∷ y ∷ l) a m = go (least-some f (y ∷ l) y (Memᴰ.head refl))
  where
    Least : Type 0
    Least = (c : A) × Memᴰ c (x ∷ y ∷ l) × ((b : A) → Memᴰ b (x ∷ y ∷ l) → ltb (f b) (f c) ≡ false)

    go : (c : A) × Memᴰ c (y ∷ l) × ((b : A) → Memᴰ b (y ∷ l) → ltb (f b) (f c) ≡ false) → Least
    go r = by-test (ltb (f x) (f r.0))
        (λ t. (
          x,
          Memᴰ.head refl,
          λ b n. ⊎_elim
              (λ s. le-ltb (f b) (f x) (omega (arith, ap f s)))
              (λ k. le-ltb (f b) (f x) (omega (arith, ltb-true (f x) (f r.0) t, ltb-false (f b) (f r.0) (r.2 b k))))
              (Memᴰ.cases_cons n),
        ))
        (λ t. (
          r.0,
          Memᴰ.tail r.1,
          λ b n. ⊎_elim
              (λ s. ap (λ (z : A). ltb (f z) (f r.0)) s ∙ t)
              (λ k. r.2 b k)
              (Memᴰ.cases_cons n),
        ))

-- where one is ahead of another by a lesser number, a list with a member has a foremost one
pub foremost-some : {A : Type 0} (f : A → ℕ) (l : List A) (a : A) → Memᴰ a l
    → (c : A) × Memᴰ c (foremost (λ a b. ltb (f a) (f b)) l)
foremost-some {A} f l a m =
    let r = least-some f l a m in
    (r.0, foremost-mem (λ (a b : A). ltb (f a) (f b)) l r.0 r.1 r.2)
