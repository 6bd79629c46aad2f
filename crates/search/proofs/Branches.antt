-- What is kept after the positions at and below one, by the branches of its first undecided area. Assumes nothing.
use Prim.Native.Nat.{ℕ, ◌+◌, ◌-◌, ◌*◌, ◌<◌, ◌≤◌}
use mathlib.Core.Path.{◌≡◌, sym, ap, ◌∙◌}
use mathlib.Core.Bool.{cond}
use mathlib.Core.Logic.{◌⊎◌, inl, inr}
use mathlib.Core.List.{List, [], ◌∷◌, ◌++◌, foldl-append}
use native.Mathlib.Nat.{pow-le-pow_right}
use native.Mathlib.Omega.{arith}
use lib.Dec.{leb, eqb}
use lib.ListN.{length, get_or, drop}
use lib.Seq.{drop-length}
use borrow.Author.Tests.{le-leb, lt-leb, eq-eqb, ne_eqb}
use Rattle.lists.proofs.SumLaws.{drop-next}
use Rattle.search.specs.Search.{Kept, Pos, note, note_at, note_all, positions, searched, Ready}

-- all areas decided: the choice is noted
pub search-end : (sizes : List ℕ) (at left e s bit : ℕ) (k : Kept) → at ≡ length sizes
    → note sizes left e s k ≡ searched sizes at left e s bit k
unfolding searched note_all positions note_at
search-end sizes at left e s bit k h = rw (h, drop-length)

-- a list of positions in two parts
note_all-append : (sizes : List ℕ) (k : Kept) (ps qs : List Pos)
    → note_all sizes k (ps ++ qs) ≡ note_all sizes (note_all sizes k ps) qs
unfolding note_all
note_all-append sizes k ps qs = foldl-append _ k ps qs

-- the branches of the first undecided area
pub branches : (sizes : List ℕ) (m : ℕ) (ms : List ℕ) (at left e s bit : ℕ) (k : Kept)
    → note_all sizes k (positions (m ∷ ms) at left e s bit)
    ≡ note_all sizes
    (note_all sizes (note_all sizes k (positions ms (at + 1) left e s (bit * 2)))
    (cond (leb m left) (positions ms (at + 1) (left - m) e (s + bit) (bit * 2)) []))
    (cond (eqb e 0) (positions ms (at + 1) left (at + 1) s (bit * 2)) [])
unfolding positions note_all note_at
branches sizes m ms at left e s bit k =
    note_all-append sizes k (positions ms (at + 1) left e s (bit * 2)) _ ∙ note_all-append sizes _ (cond (leb m left) _ []) _

module _ (sizes : List ℕ) (at left e s bit : ℕ) where
  -- from k₁ to k₂ the area at `at` is taken whole, if it fits
  abbrev pub Whole : Kept → Kept → Type 0
  Whole k₁ k₂ =
      ((get_or sizes at 0 ≤ left) × (k₂ ≡ searched sizes (at + 1) (left - get_or sizes at 0) e (s + bit) (bit * 2) k₁))
      ⊎ ((left < get_or sizes at 0) × (k₂ ≡ k₁))

  -- from k₂ to k₃ it is made partial, if no area is
  abbrev pub Partial : Kept → Kept → Type 0
  Partial k₂ k₃ =
      ((e ≡ 0) × (k₃ ≡ searched sizes (at + 1) left (at + 1) s (bit * 2) k₂)) ⊎ ((e ≡ 0 → ⊥) × (k₃ ≡ k₂))

-- one area decided: left out, then whole if it fits, then partial if none is
pub search-next : (sizes : List ℕ) (at left e s bit : ℕ) (k k₁ k₂ k₃ : Kept) → at < length sizes
    → k₁ ≡ searched sizes (at + 1) left e s (bit * 2) k
    → Whole sizes at left e s bit k₁ k₂
    → Partial sizes at left e s bit k₂ k₃
    → k₃ ≡ searched sizes at left e s bit k
unfolding searched note_all
search-next sizes at left e s bit k k₁ k₂ k₃ h p q r =
    third r
    ∙ ap (λ (x : Kept). note_all sizes x partial) (second q ∙ ap (λ (x : Kept). note_all sizes x whole) p)
    ∙ sym (ap (λ (l : List ℕ). note_all sizes k (positions l at left e s bit)) rest ∙ branches sizes m ms at left e s bit k)
  where
    m : ℕ
    m = get_or sizes at 0

    ms : List ℕ
    ms = drop (at + 1) sizes

    rest : drop at sizes ≡ m ∷ ms
    rest = drop-next sizes at 0 h

    whole : List Pos
    whole = cond (leb m left) (positions ms (at + 1) (left - m) e (s + bit) (bit * 2)) []

    partial : List Pos
    partial = cond (eqb e 0) (positions ms (at + 1) left (at + 1) s (bit * 2)) []

    second : Whole sizes at left e s bit k₁ k₂ → k₂ ≡ note_all sizes k₁ whole
    second (inl w) = rw (le-leb m left w.0) w.1
    second (inr w) = rw (lt-leb m left w.0) w.1

    third : Partial sizes at left e s bit k₂ k₃ → k₃ ≡ note_all sizes k₂ partial
    third (inl w) = rw (eq-eqb e 0 w.0) w.1
    third (inr w) = rw (ne_eqb e 0 w.0) w.1

-- a set number and its next place are far below 2 ^ 32
pub bit-small : {n at e s bit entries : ℕ} → Ready n at e s bit entries → bit ≤ 1_048_576
bit-small {at} {bit} r =
    rw r.power (pow-le-pow_right {n = 2} (omega arith) {i = at} {j = 20} (omega (arith, r.few, r.within)))
