-- Laws of tests. Assumes nothing.
use Prim.Native.Nat.{ℕ, ◌≤◌, ◌<◌}
use mathlib.Core.Path.{◌≡◌, refl, sym, ap, ◌∙◌}
use mathlib.Core.Bool.{Bool, true, false, cond, ◌&&◌}
use native.Mathlib.Omega.{arith}
use borrow.Author.Tests.{leb-true, leb-false, le-leb, lt-leb}
use lib.Dec.{leb, eqb}
use Rattle.lists.specs.Sums.{flag}

-- by the two values of a test, with the equation in each
pub by-test {ℓ} : {C : Type ℓ} (b : Bool) → (b ≡ true → C) → (b ≡ false → C) → C
by-test true y n = y refl
by-test false y n = n refl

-- no test is both true and false
pub not-both {ℓ} : {C : Type ℓ} {b : Bool} → b ≡ true → b ≡ false → C
not-both t f = absurd (let z : ◌≡◌ {A = ℕ} 0 1 = cc in omega arith)

-- a test that holds takes the first, one that fails leaves the second
pub takes : {A : Type 0} {t : Bool} {a : A} (b : A) → t ≡ true → a ≡ cond t a b
takes {A} {t} {a} b e = ap (λ (x : Bool). cond x a b) (sym e)

pub leaves : {A : Type 0} {t : Bool} (a : A) {b : A} → t ≡ false → b ≡ cond t a b
leaves {A} {t} a {b} e = ap (λ (x : Bool). cond x a b) (sym e)

-- a test told by 1 or 0
pub told : (b : Bool) → eqb (flag b) 1 ≡ b
told true = refl
told false = refl

-- two tests that follow from one another
pub leb-same : (a b c d : ℕ) → (a ≤ b → c ≤ d) → (b < a → d < c) → leb a b ≡ leb c d
leb-same a b c d f g =
    by-test (leb a b)
    (λ e. e ∙ sym (le-leb c d (f (leb-true a b e))))
    (λ e. e ∙ sym (lt-leb c d (g (leb-false a b e))))

-- ---- two tests together

pub both : {a b : Bool} → a ≡ true → b ≡ true → a && b ≡ true
both {b = b} p q = ap (λ (x : Bool). x && b) p ∙ q

pub not_first : {a : Bool} (b : Bool) → a ≡ false → a && b ≡ false
not_first b p = ap (λ (x : Bool). x && b) p

pub not-second : {a b : Bool} → a ≡ true → b ≡ false → a && b ≡ false
not-second {b = b} p q = ap (λ (x : Bool). x && b) p ∙ q

pub first_of : (a b : Bool) → a && b ≡ true → a ≡ true
first_of true b e = refl
first_of false b e = e

pub second-of : (a b : Bool) → a && b ≡ true → b ≡ true
second-of true b e = e
second-of false b e = not-both e refl

-- two tests agree if each passes where the other does
pub same_test : (a b : Bool) → (a ≡ true → b ≡ true) → (b ≡ true → a ≡ true) → a ≡ b
same_test true true f g = refl
same_test true false f g = sym (f refl)
same_test false true f g = g refl
same_test false false f g = refl
