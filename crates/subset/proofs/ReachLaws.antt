-- Laws of the sums of the first k places and of the sets that the table's entries stand for. Assumes nothing.
use Prim.Native.Nat.{ℕ, zero, suc, ◌+◌, ◌-◌, ◌≤◌, ◌<◌}
use mathlib.Core.Path.{◌≡◌, refl, sym, ◌∙◌}
use mathlib.Core.Bool.{Bool, true, false, ◌&&◌, ◌||◌, or-true}
use native.Mathlib.Omega.{arith}
use lib.Dec.{leb, eqb}
use borrow.Author.Tests.{leb-true, eqb-true, le-leb, eq-eqb, ne_eqb}
use Rattle.lists.specs.Sums.{sum_below}
use Rattle.lists.proofs.Tests.{by-test, not-both, first_of, second-of}
use Rattle.lists.proofs.BelowLaws.{sum-test}
use Rattle.subset.specs.Table.{reach, member, greatest_of}

module _ (w : ℕ → ℕ) where
  -- ---- sums that are reached

  -- every set's sum is
  pub reach-complete : (f : ℕ → Bool) (k : ℕ) → reach w k (sum_below w f k) ≡ true
  unfolding reach sum_below
  reach-complete f zero = refl
  reach-complete f (suc k) =
      let ih = reach-complete f k in
      let n = sum_below w f k in
      by-test (f k)
      (λ t.
      let l : leb (w k) (n + w k) ≡ true = le-leb (w k) (n + w k) (omega arith) in
      let m : n + w k - w k ≡ n = omega arith in
      rw (t, l, m, ih) (or-true (reach w k (n + w k))))
      (λ t. let m : n + 0 ≡ n = omega arith in rw (t, m, ih))

  -- a sum that is new comes by the last place
  pub reach-new : (k s : ℕ) → reach w (suc k) s ≡ true → reach w k s ≡ false → (w k ≤ s) × (reach w k (s - w k) ≡ true)
  unfolding reach
  reach-new k s h e =
      let g : (leb (w k) s && reach w k (s - w k)) ≡ true = rw e at h in
      (leb-true (w k) s (first_of (leb (w k) s) (reach w k (s - w k)) g), second-of (leb (w k) s) (reach w k (s - w k)) g)

  -- and that place has people
  pub new-pays : (k s : ℕ) → reach w (suc k) s ≡ true → reach w k s ≡ false → 0 < w k
  new-pays k s h e =
      let n = reach-new k s h e in
      let some : w k ≡ 0 → ⊥ = λ z. let m : s - w k ≡ s = omega arith in not-both (rw m at n.1) e in
      omega arith

  -- what k places reach, more places reach
  pub reach-more : (k s : ℕ) → reach w k s ≡ true → reach w (suc k) s ≡ true
  unfolding reach
  reach-more k s h = rw h

  pub reach-stay : (k d s : ℕ) → reach w k s ≡ true → reach w (d + k) s ≡ true
  reach-stay k zero s h = let z : 0 + k ≡ k = omega arith in rw z h
  reach-stay k (suc d) s h =
      let z : suc d + k ≡ suc (d + k) = omega arith in
      rw z (reach-more (d + k) s (reach-stay k d s h))

  pub reach-zero : (k : ℕ) → reach w k 0 ≡ true
  unfolding reach
  reach-zero zero = refl
  reach-zero (suc k) = reach-more k 0 (reach-zero k)

  -- ---- members

  -- by one place more: as before where the sum was reached, and else the place and what is left
  pub member-old : (k s i : ℕ) → reach w k s ≡ true → member w (suc k) s i ≡ member w k s i
  unfolding member
  member-old k s i h = rw h

  pub member-new : (k s i : ℕ) → reach w k s ≡ false → member w (suc k) s i ≡ (eqb i k || member w k (s - w k) i)
  unfolding member
  member-new k s i h = rw h

  -- no place past the first k is one
  pub member-out : (k s i : ℕ) → k ≤ i → member w k s i ≡ false
  unfolding member
  member-out zero s i h = refl
  member-out (suc k) s i h =
      let ne : eqb i k ≡ false = ne_eqb i k (omega arith) in
      by-test (reach w k s)
      (λ t. rw t (member-out k s i (omega arith)))
      (λ t. rw (t, ne) (member-out k (s - w k) i (omega arith)))

  pub member-top : (k s : ℕ) → reach w k s ≡ false → member w (suc k) s k ≡ true
  member-top k s h = rw (member-new k s k h, eq-eqb k k refl)

  pub member_below : (k s i : ℕ) → reach w k s ≡ false → i < k → member w (suc k) s i ≡ member w k (s - w k) i
  member_below k s i h l = rw (member-new k s i h, ne_eqb i k (omega arith))

  pub member-top-old : (k s : ℕ) → reach w k s ≡ true → member w (suc k) s k ≡ false
  member-top-old k s h = rw (member-old k s k h) (member-out k s k (omega arith))

  -- the sum 0 has none
  pub member-zero : (k i : ℕ) → member w k 0 i ≡ false
  unfolding member
  member-zero zero i = refl
  member-zero (suc k) i = rw (reach-zero k) (member-zero k i)

  -- they stay when places come that are not needed
  pub member-stay : (k d s i : ℕ) → reach w k s ≡ true → member w (d + k) s i ≡ member w k s i
  member-stay k zero s i h = let z : 0 + k ≡ k = omega arith in rw z
  member-stay k (suc d) s i h =
      let z : suc d + k ≡ suc (d + k) = omega arith in
      rw z (member-old (d + k) s i (reach-stay k d s h) ∙ member-stay k d s i h)

  -- they add up to the sum
  pub member-total : (k s : ℕ) → reach w k s ≡ true → sum_below w (member w k s) k ≡ s
  unfolding sum_below reach
  member-total zero s h = sym (eqb-true s 0 h)
  member-total (suc k) s h = by-test (reach w k s)
      (λ t.
      let same = sum-test w (member w (suc k) s) (member w k s) k (λ i l. member-old k s i t) in
      rw (member-top-old k s t, same, member-total k s t) (omega arith))
      (λ t.
      let n = reach-new k s h t in
      let same = sum-test w (member w (suc k) s) (member w k (s - w k)) k (λ i l. member_below k s i t l) in
      rw (member-top k s t, same, member-total k (s - w k) n.1) (omega arith))

  -- each has people
  pub member-pays : (k s i : ℕ) → reach w k s ≡ true → member w k s i ≡ true → 0 < w i
  unfolding member
  member-pays zero s i r m = not-both m refl
  member-pays (suc k) s i r m = by-test (reach w k s)
      (λ t. member-pays k s i t (sym (member-old k s i t) ∙ m))
      (λ t. by-test (eqb i k)
      (λ q. rw (eqb-true i k q) (new-pays k s r t))
      (λ q. member-pays k (s - w k) i (reach-new k s r t).1 (rw q at (sym (member-new k s i t) ∙ m))))

  -- ---- the greatest sum within a limit

  pub greatest-within : (k l : ℕ) → greatest_of w k l ≤ l
  unfolding greatest_of
  greatest-within k zero = omega arith
  greatest-within k (suc l) =
      let ih = greatest-within k l in
      by-test (reach w k (suc l)) (λ t. rw t (omega arith)) (λ t. rw t (omega arith))

  pub greatest-reach : (k l : ℕ) → reach w k (greatest_of w k l) ≡ true
  unfolding greatest_of
  greatest-reach k zero = reach-zero k
  greatest-reach k (suc l) = by-test (reach w k (suc l)) (λ t. rw t t) (λ t. rw t (greatest-reach k l))

  pub greatest-most : (k l s : ℕ) → s ≤ l → reach w k s ≡ true → s ≤ greatest_of w k l
  unfolding greatest_of
  greatest-most k zero s h r = h
  greatest-most k (suc l) s h r =
      by-test (reach w k (suc l))
      (λ t. rw t h)
      (λ t. rw t (greatest-most k l s (let ne : s ≡ suc l → ⊥ = λ q. not-both r (rw (← q) at t) in omega arith) r))

  -- it is the one such sum
  pub greatest-is : (k l s : ℕ) → s ≤ l → reach w k s ≡ true → ((t : ℕ) → s < t → t ≤ l → reach w k t ≡ false)
      → s ≡ greatest_of w k l
  greatest-is k l s h r none =
      let a = greatest-most k l s h r in
      let b : s < greatest_of w k l → ⊥ = λ q. not-both (greatest-reach k l) (none (greatest_of w k l) q (greatest-within k l)) in
      omega arith
