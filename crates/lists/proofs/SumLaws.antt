-- Laws of sums over lists. Assumes nothing.
use Prim.Native.Nat.{ℕ, zero, suc, ◌+◌, ◌*◌, ◌≤◌, ◌<◌}
use mathlib.Core.Path.{◌≡◌, refl, sym, ap, ◌∙◌}
use mathlib.Core.Bool.{Bool, true, false}
use mathlib.Core.List.{List, [], ◌∷◌, ◌++◌, map}
use native.Mathlib.Omega.{arith}
use native.Mathlib.Nat.{zero-add, mul-add, mul-zero}
use native.Mathlib.Numerals.{add-one}
use lib.Dec.{ltb, eqb}
use lib.ListN.{length, get_or, take, drop}
use lib.Seq.{take-suc, drop-cons}
use borrow.Author.Tests.{lt-ltb, eqb-true, eqb-false}
use Rattle.lists.specs.Sums.{total, any, All, flag, count}
use Rattle.lists.proofs.Tests.{by-test}

-- ---- counts over the numbers below n

pub count_same : (f g : ℕ → Bool) (n : ℕ) → ((i : ℕ) → i < n → f i ≡ g i) → count f n ≡ count g n
unfolding count
count_same f g zero h = refl
count_same f g (suc n) h = λ i. count_same f g n (λ k b. h k (omega arith)) i + flag (h n (omega arith) i)

-- a count of the numbers below n is at most n
pub count_most : (f : ℕ → Bool) (n : ℕ) → count f n ≤ n
unfolding count
count_most f zero = omega arith
count_most f (suc n) =
    let h = count_most f n in
    by-test (f n) (λ t. rw t (omega arith)) (λ t. rw t (omega arith))

-- where all that pass pass another test too, no more pass; and fewer do where one of the others does
pub count-least : (f g : ℕ → Bool) (n : ℕ) → ((i : ℕ) → f i ≡ true → g i ≡ true) → count f n ≤ count g n
unfolding count
count-least f g zero s = omega arith
count-least f g (suc n) s =
    let h = count-least f g n s in
    by-test (f n) (λ t. rw (t, s n t) (omega arith)) (λ t. rw t (omega arith))

pub count_less : (f g : ℕ → Bool) (n i : ℕ) → ((j : ℕ) → f j ≡ true → g j ≡ true) → i < n → f i ≡ false → g i ≡ true
    → count f n < count g n
unfolding count
count_less f g zero i s l a b = absurd (omega arith)
count_less f g (suc n) i s l a b = by-test (eqb i n)
    (λ t.
    let e = eqb-true i n t in
    let h = count-least f g n s in
    rw (rw e at a, rw e at b) (omega arith))
    (λ t.
    let ne = eqb-false i n t in
    let h = count_less f g n i s (omega arith) a b in
    by-test (f n) (λ q. rw (q, s n q) (omega arith)) (λ q. rw q (omega arith)))

module _ {A : Type 0} where
  -- a length is a sum
  pub length-total : (l : List A) → length l ≡ total (λ _. 1) l
  length-total [] = refl
  length-total (a ∷ l) = let h = length-total l in omega arith

  -- a test of some element is a sum
  pub any-total : (p : A → Bool) (l : List A) → any p l ≡ ltb 0 (total (λ a. flag (p a)) l)
  any-total p [] = refl
  any-total p (a ∷ l) =
      by-test (p a)
      (λ t. simp t (sym (lt-ltb 0 (1 + total (λ a. flag (p a)) l) (omega arith))))
      (λ t. simp (t, zero-add) (any-total p l))

  -- ---- sums of sums

  pub total-same : {f g : A → ℕ} → ((a : A) → f a ≡ g a) → (l : List A) → total f l ≡ total g l
  total-same e [] = refl
  total-same e (a ∷ l) = λ i. e a i + total-same e l i

  pub total-zero : {f : A → ℕ} → ((a : A) → f a ≡ 0) → (l : List A) → total f l ≡ 0
  total-zero e [] = refl
  total-zero e (a ∷ l) = λ i. e a i + total-zero e l i

  pub total-le : {f g : A → ℕ} → ((a : A) → f a ≤ g a) → (l : List A) → total f l ≤ total g l
  total-le h [] = omega arith
  total-le h (a ∷ l) = let here = h a in let later = total-le h l in omega arith

  pub total-add : (f g : A → ℕ) (l : List A) → total (λ a. f a + g a) l ≡ total f l + total g l
  total-add f g [] = refl
  total-add f g (a ∷ l) = let h = total-add f g l in omega arith

  pub total-scale : (k : ℕ) (f : A → ℕ) (l : List A) → total (λ a. k * f a) l ≡ k * total f l
  total-scale k f [] = sym (mul-zero k)
  total-scale k f (a ∷ l) = ap (λ (n : ℕ). k * f a + n) (total-scale k f l) ∙ sym (mul-add k (f a) (total f l))

  pub total-append : (f : A → ℕ) (l m : List A) → total f (l ++ m) ≡ total f l + total f m
  total-append f [] m = sym (zero-add (total f m))
  total-append f (a ∷ l) m = let h = total-append f l m in omega arith

  -- one element more
  pub total-next : (f : A → ℕ) (l : List A) (i : ℕ) (d : A) → i < length l →
      total f (take (suc i) l) ≡ total f (take i l) + f (get_or l i d)
  total-next f l i d h =
      ap (total f) (take-suc l i d h)
      ∙ total-append f (take i l) (get_or l i d ∷ [])
      ∙ (let x = f (get_or l i d) in omega arith)

module _ {A B : Type 0} where
  -- the sum over two lists, in either order
  pub exchange : (f : A → B → ℕ) (xs : List A) (ys : List B) →
      total (λ a. total (f a) ys) xs ≡ total (λ b. total (λ a. f a b) xs) ys
  exchange f [] ys = sym (total-zero (λ b. refl) ys)
  exchange f (a ∷ xs) ys =
      ap (λ (n : ℕ). total (f a) ys + n) (exchange f xs ys) ∙ sym (total-add (f a) (λ b. total (λ a. f a b) xs) ys)

  -- what holds of each element holds of what is made of each
  pub all_map : (P : A → Type 0) (Q : B → Type 0) (f : A → B) → ((a : A) → P a → Q (f a)) →
      (l : List A) → All P l → All Q (map f l)
  all_map P Q f h [] x = tt
  all_map P Q f h (a ∷ l) x = (h a x.0, all_map P Q f h l x.1)

-- what every element has, the one at a place has
pub all_get_d : {A : Type 0} (P : A → Type 0) (l : List A) (i : ℕ) (d : A) → All P l → i < length l → P (get_or l i d)
all_get_d P [] i d a h = absurd (omega arith)
all_get_d P (x ∷ l) zero d a h = a.0
all_get_d P (x ∷ l) (suc i) d a h = all_get_d P l i d a.1 (omega arith)

-- the elements from place i on begin with the one at i
pub drop-next : {A : Type 0} (l : List A) (i : ℕ) (d : A) → i < length l → drop i l ≡ get_or l i d ∷ drop (i + 1) l
drop-next l i d h = drop-cons l i d h ∙ ap (λ (j : ℕ). get_or l i d ∷ drop j l) (sym (add-one i))
