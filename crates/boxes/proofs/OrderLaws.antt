-- Laws of the order of signed numbers, and of the least and the greatest of several. Assumes nothing.
use Prim.Native.Nat.{ℕ, zero, suc, ◌+◌, ◌<◌}
use mathlib.Core.Path.{◌≡◌, refl, sym, ap, ◌∙◌}
use mathlib.Core.Bool.{Bool, true, false, not, ◌&&◌, and-true, and_assoc}
use native.Mathlib.Omega.{arith}
use native.Mathlib.Numerals.{add-one}
use lib.Dec.{leb, ltb}
use lib.IntN.{ℤ, pos, negsuc}
use lib.Signed.{le_z, lt_z}
use borrow.Author.Tests.{leb-true, le-leb, lt-leb, ltb-true, ltb-false}
use Rattle.lists.specs.Sums.{every_below}
use Rattle.lists.proofs.Tests.{by-test, not-both}
use native.Mathlib.Nat.{max-eq_left, max-eq_right}
use Rattle.std.proofs.Common.{max, inl, inr}
use Rattle.std.proofs.lemmas.Bool.{cases_lt}
use Rattle.std.specs.Int.{int_min, int_max}
use Rattle.boxes.specs.Rows.{join_to}

-- ---- the order

-- one test is the other turned round
turned : (a b : ℕ) → leb b a ≡ not (ltb a b)
turned a b = by-test (ltb a b)
    (λ t. lt-leb b a (ltb-true a b t) ∙ ap not (sym t))
    (λ t. le-leb b a (ltb-false a b t) ∙ ap not (sym t))

pub turned-z : (a b : ℤ) → le_z b a ≡ not (lt_z a b)
turned-z (pos a) (pos b) = turned a b
turned-z (pos a) (negsuc b) = refl
turned-z (negsuc a) (pos b) = refl
turned-z (negsuc a) (negsuc b) = turned b a

less-le : (a b : ℤ) → lt_z a b ≡ true → le_z a b ≡ true
less-le (pos a) (pos b) h = le-leb a b (omega (arith, ltb-true a b h))
less-le (pos a) (negsuc b) h = h
less-le (negsuc a) (pos b) h = refl
less-le (negsuc a) (negsuc b) h = le-leb b a (omega (arith, ltb-true b a h))

not-less : (a b : ℤ) → lt_z a b ≡ false → le_z b a ≡ true
not-less a b h = turned-z a b ∙ ap not h

le-le : (a b c : ℤ) → le_z a b ≡ true → le_z b c ≡ true → le_z a c ≡ true
le-le (pos a) (pos b) (pos c) h k = le-leb a c (omega (arith, leb-true a b h, leb-true b c k))
le-le (pos a) (pos b) (negsuc c) h k = k
le-le (pos a) (negsuc b) c h k = not-both h refl
le-le (negsuc a) (pos b) (pos c) h k = refl
le-le (negsuc a) (pos b) (negsuc c) h k = not-both k refl
le-le (negsuc a) (negsuc b) (pos c) h k = refl
le-le (negsuc a) (negsuc b) (negsuc c) h k = le-leb c a (omega (arith, leb-true b a h, leb-true c b k))

le-less : (a b c : ℤ) → le_z a b ≡ true → lt_z b c ≡ true → lt_z a c ≡ true
le-less a b c h k = by-test (lt_z a c) (λ t. t)
    (λ t. not-both (le-le c a b (not-less a c t) h) (turned-z b c ∙ ap not k))

-- ---- the lower and the higher of two

-- of two tests the one that is passed only with the other
first-enough : (p q : Bool) → (p ≡ true → q ≡ true) → p ≡ p && q
first-enough true q f = sym (f refl)
first-enough false q f = refl

second-enough : (p q : Bool) → (q ≡ true → p ≡ true) → q ≡ p && q
second-enough true q f = refl
second-enough false true f = sym (f refl)
second-enough false false f = refl

pub lower-both : (z a b : ℤ) → le_z z (int_min a b) ≡ le_z z a && le_z z b
lower-both z a b = by-test (lt_z b a)
    (λ t. rw t (second-enough (le_z z a) (le_z z b) (λ h. le-le z b a h (less-le b a t))))
    (λ t. rw t (first-enough (le_z z a) (le_z z b) (λ h. le-le z a b h (not-less b a t))))

pub higher-both : (z a b : ℤ) → le_z (int_max a b) z ≡ le_z a z && le_z b z
higher-both z a b = by-test (lt_z b a)
    (λ t. rw t (first-enough (le_z a z) (le_z b z) (le-le b a z (less-le b a t))))
    (λ t. rw t (second-enough (le_z a z) (le_z b z) (le-le a b z (not-less b a t))))

pub higher-less : (z a b : ℤ) → lt_z (int_max a b) z ≡ lt_z a z && lt_z b z
higher-less z a b = by-test (lt_z b a)
    (λ t. rw t (first-enough (lt_z a z) (lt_z b z) (le-less b a z (less-le b a t))))
    (λ t. rw t (second-enough (lt_z a z) (lt_z b z) (le-less a b z (not-less b a t))))

pub larger-both : (z a b : ℕ) → leb (max a b) z ≡ leb a z && leb b z
larger-both z a b =
    elim (cases_lt a b) [
      | inl l ↦ ap (λ (m : ℕ). leb m z) (max-eq_right (omega (arith, l)))
          ∙ second-enough (leb a z) (leb b z) (λ h. le-leb a z (omega (arith, leb-true b z h, l)))
      | inr l ↦ ap (λ (m : ℕ). leb m z) (max-eq_left l)
          ∙ first-enough (leb a z) (leb b z) (λ h. le-leb b z (omega (arith, leb-true a z h, l)))
    ]

-- ---- of several

module _ {A : Type 0} (join : A → A → A) (start : A) (f : ℕ → A) where
  -- a test that two pass together exactly if what they are joined to does, all pass together
  pub join-test : (test : A → Bool) → ((a b : A) → test (join a b) ≡ test a && test b)
      → (n : ℕ) → test (join_to join start f n) ≡ test start && every_below (λ k. test (f k)) n
  unfolding join_to every_below
  join-test test both zero = sym (and-true (test start))
  join-test test both (suc n) =
      both (join_to join start f n) (f n)
      ∙ ap (λ (b : Bool). b && test (f n)) (join-test test both n)
      ∙ and_assoc (test start) (every_below (λ k. test (f k)) n) (test (f n))

  -- of values that are the same
  pub join_same : (g : ℕ → A) (n : ℕ) → ((k : ℕ) → k < n → f k ≡ g k) → join_to join start f n ≡ join_to join start g n
  unfolding join_to
  join_same g zero h = refl
  join_same g (suc n) h = λ i. join (join_same g n (λ k l. h k (omega arith)) i) (h n (omega arith) i)

  -- one more
  pub join-next : (n : ℕ) → join (join_to join start f n) (f n) ≡ join_to join start f (n + 1)
  unfolding join_to
  join-next n = ap (join_to join start f) (sym (add-one n))
