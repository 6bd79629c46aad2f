-- Laws of sums that stop at the largest count, for the functions here and for callers. Assumes nothing.
use Rattle.std.proofs.Common.{◌≡◌, ℕ, ◌+◌, ◌-◌, ◌*◌, ◌^◌, ◌≤◌, ◌<◌, min, ◌∙◌, sym, inl, inr, arith}
use mathlib.Core.Path.{subst⁻¹}
use native.Mathlib.Nat.{le_of_lt, lt_of_le_of_lt, mul-le-mul_left, mul-lt-mul_of_pos_right, min-eq_left, min-eq_right}
use lib.Pow.{pow_pos, pow-add}
use borrow.Author.Tests.{le-leb, lt-leb}
use Rattle.std.proofs.lemmas.Bool.{cases_lt}
use Rattle.units.specs.Sums.{largest, capped}

-- a sum that a u64 holds is exact
pub exact : (n : ℕ) → n ≤ largest → capped n ≡ n
unfolding capped
exact n h = simp (le-leb n largest h)

-- any other stops at the largest count
pub stops : (n : ℕ) → largest < n → capped n ≡ largest
unfolding capped
stops n h = simp (lt-leb n largest h)

-- the product of two numbers of k bits has at most k + k
pub below : (k : ℕ) {a b : ℕ} → a < 2 ^ k → b < 2 ^ k → a * b < 2 ^ (k + k)
below k {a} {b} ha hb =
    subst⁻¹ (λ (n : ℕ). a * b < n) (pow-add 2 k k)
    (lt_of_le_of_lt (mul-le-mul_left a (le_of_lt hb)) (mul-lt-mul_of_pos_right ha (pow_pos k)))

-- the library's saturating methods stop there too
pub stopped : (n : ℕ) → min n (2 ^ 64 - 1) ≡ capped n
stopped n =
    elim (cases_lt largest n) [
      | inl past ↦ min-eq_right (omega (arith, past)) ∙ sym (stops n past)
      | inr within ↦ min-eq_left within ∙ sym (exact n within)
    ]
