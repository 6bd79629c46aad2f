-- Laws of fields: a value that was read and tested, by the test of its room. Assumes nothing.
use Rattle.std.proofs.Common.{◌≡◌, ℕ, zero, suc, ◌+◌, ◌-◌, ◌*◌, ◌/◌, ◌%◌, ◌^◌, ◌<◌, ◌≤◌, Bool, true, false, cond, eqb, leb, List, length}
use Rattle.std.proofs.Common.{[], ◌∷◌, ◌++◌, get_or, take, drop, sym, refl, ap, ◌∙◌, add-one, drop-cons, arith, le-leb, leb-false, leb-true}
use Rattle.std.proofs.Common.{w32, Result, Ok, Err, Option, None}
use Rattle.std.specs.Int.{from_le_bytes}
use native.Mathlib.Nat.{zero-div}
use borrow.Author.Tests.{lt-leb}
use lib.ListN.{get_or-eq_default}
use Rattle.lists.proofs.Tests.{takes, leaves}
use Rattle.std.specs.Result.{IsErrAnd}
use Rattle.std.specs.Option.{ok_or}
use Rattle.map.specs.declared.Fault.{Fault}
use Rattle.map.specs.Reading.{Read, bad, good, bind}
use Rattle.map.specs.Format.{number_at, field, bit_at, clear_from, bit_map_bytes, bit_map_field}

-- ---- the bytes of a number

-- the n bytes at a position, one by one
abbrev bytes_at : List ℕ → (at n : ℕ) → List ℕ
bytes_at s at zero = []
bytes_at s at (suc n) = get_or s at 0 ∷ bytes_at s (suc at) n

taken : (s : List ℕ) (at n : ℕ) → at + n ≤ length s → take n (drop at s) ≡ bytes_at s at n
taken s at zero h = refl
taken s at (suc n) h =
    ap (take (suc n)) (drop-cons s at 0 (omega arith)) ∙ ap (λ (l : List ℕ). get_or s at 0 ∷ l) (taken s (suc at) n (omega arith))

counted : (s : List ℕ) (at n : ℕ) → n ≤ 4 → from_le_bytes w32 (bytes_at s at n ++ drop n (0 ∷ 0 ∷ 0 ∷ 0 ∷ [])) ≡ number_at s at n
unfolding number_at
counted s at zero l = refl
counted s at (suc zero) l = omega arith
counted s at (suc (suc zero)) l = simp add-one (omega arith)
counted s at (suc (suc (suc zero))) l = simp add-one (omega arith)
counted s at (suc (suc (suc (suc zero)))) l = simp add-one (omega arith)
counted s at (suc (suc (suc (suc (suc n))))) l = absurd (omega arith)

-- the number in n bytes that stand before zeros
pub number_of_bytes : (s : List ℕ) (at n : ℕ) → n ≤ 4 → at + n ≤ length s → (bs : List ℕ) → bs ≡ take n (drop at s)
    → from_le_bytes w32 (bs ++ drop n (0 ∷ 0 ∷ 0 ∷ 0 ∷ [])) ≡ number_at s at n
number_of_bytes s at n few room bs is =
    ap (λ (l : List ℕ). from_le_bytes w32 (l ++ drop n (0 ∷ 0 ∷ 0 ∷ 0 ∷ []))) (is ∙ taken s at n room) ∙ counted s at n few

-- ---- a field, by its room and its limits

-- what the test of a field's room tells
pub room : {t : Bool} (m n : ℕ) → t ≡ leb m n → t ≡ true → m ≤ n
room m n e h = leb-true m n (sym e ∙ h)

pub no_room : {t : Bool} (m n : ℕ) → t ≡ leb m n → t ≡ false → n < m
no_room m n e h = leb-false m n (sym e ∙ h)

pub field-ends : {A : Type 0} (s : List ℕ) (at n : ℕ) (v : A) (ok : Bool) → length s < at + n → bad 1 ≡ field s at n v ok
unfolding field
field-ends s at n v ok h = leaves (cond ok (good v (at + n)) (bad 2)) (lt-leb (at + n) (length s) h)

-- a value x that was read and tested
pub field_is : {A : Type 0} {r : Read A} (s : List ℕ) (at n : ℕ) (P : A → Bool) {x v : A}
    → r ≡ cond (P x) (good x (at + n)) (bad 2) → x ≡ v → at + n ≤ length s → r ≡ field s at n v (P v)
unfolding field
field_is {A} s at n P {x} {v} q d h =
    q ∙ ap (λ (y : A). cond (P y) (good y (at + n)) (bad 2)) d ∙ takes (bad 1) (le-leb (at + n) (length s) h)

-- a bit map whose bits past the last column were tested
pub bit-map-is : {r : Read (Unit {0})} (s : List ℕ) (columns at : ℕ)
    → r ≡ cond (clear_from s at columns (bit_map_bytes columns * 8 - columns)) (good tt (at + bit_map_bytes columns)) (bad 2)
    → at + bit_map_bytes columns ≤ length s → r ≡ bit_map_field s columns at
bit-map-is s columns at q h =
    field_is s at (bit_map_bytes columns) (λ _. clear_from s at columns (bit_map_bytes columns * 8 - columns)) q refl h

-- past the map's end no bit stands
pub bit_past : (s : List ℕ) (bits j : ℕ) → length s ≤ bits + j / 8 → bit_at s bits j ≡ false
unfolding bit_at
bit_past s bits j h =
    ap (λ (b : ℕ). eqb (b / 2 ^ (j % 8) % 2) 1) (get_or-eq_default s 0 h)
    ∙ ap (λ (b : ℕ). eqb (b % 2) 1) (zero-div (2 ^ (j % 8)))

-- a fault that is passed on
pub passed_on : {A : Type 0} {r : Result A Fault} {f : Fault} → IsErrAnd r (λ e. e ≡ f) → r ≡ Err f
passed_on {r = Ok x} h = absurd h
passed_on {r = Err e} h = ap Err h

-- a fault that stands for what is not there
pub instead : {A B : Type 0} {r : Result A Fault} {f g : Fault} {o : Option B} → IsErrAnd r (λ e. e ≡ f)
    → ◌≡◌ {A = Result B Fault} (Err f) (ok_or o g) → o ≡ None → r ≡ Err g
instead {A} {B} {f = f} {g = g} h e n =
    let same : ◌≡◌ {A = Result B Fault} (Err f) (Err g) = e ∙ ap (λ (p : Option B). ok_or p g) n in
    let is : f ≡ g = cc in
    passed_on h ∙ ap Err is

-- one reading after another: a fault ends it, and what was read is handed on
pub bind-bad : {A B : Type 0} {r : Read A} {f : ℕ} (k : A → ℕ → Read B) → bad f ≡ r → bad f ≡ bind r k
bind-bad {A} k e = ap (λ (x : Read A). bind x k) e

pub bind-good : {A B : Type 0} {r : Read A} {a : A} {m : ℕ} (k : A → ℕ → Read B) → good a m ≡ r → k a m ≡ bind r k
bind-good {A} k e = ap (λ (x : Read A). bind x k) e
