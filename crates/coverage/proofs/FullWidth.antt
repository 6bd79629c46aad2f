-- Where every licence in force is 50 MHz wide, c is 50 times document 01's and the blocks of an area are document 01's. Assumes nothing.
use Prim.Native.Nat.{ℕ, ◌+◌, ◌*◌, ◌/◌, ◌%◌, ◌<◌}
use mathlib.Core.Path.{◌≡◌, refl, sym, ap, ◌∙◌}
use mathlib.Core.Bool.{Bool, not, ◌&&◌}
use mathlib.Core.List.{List, [], ◌∷◌}
use native.Mathlib.Omega.{arith}
use native.Mathlib.Nat.{mod-lt, div-add-mod', mul-add, mul_assoc, mul_left_comm}
use lib.Dec.{ltb, leb}
use lib.Arith.{digits_div, digits_mod}
use borrow.Author.Tests.{lt-ltb, le-ltb, ltb-true, ltb-false}
use Rattle.lists.specs.Sums.{flag}
use Rattle.lists.proofs.Tests.{by-test}
use Rattle.map.specs.Format.{Area}
use Rattle.map.specs.Accepted.{AreaHolds}
use Rattle.register.specs.declared.Licence.{Licence}
use Rattle.coverage.specs.declared.Holding.{Holding}
use Rattle.coverage.specs.Cover.{people_by, coverage, holding_of}
use Rattle.coverage.specs.Blocks as blocks
use Rattle.coverage.specs.FullWidth.{covered_people, remainder, rounds_up, FullWidths, AsBefore}

-- c
pub full-covered : (ls : List Licence) (a : Area) → FullWidths ls → coverage ls a ≡ 50 * covered_people ls a
full-covered [] a h = refl
full-covered (l ∷ ls) a h =
    (λ i. h.0 i * people_by a l + full-covered ls a h.1 i) ∙ sym (mul-add 50 (people_by a l) (covered_people ls a))

-- ---- 50 times a number, divided by 100 people

module _ (pop c : ℕ) (some : 0 < pop) where
  -- 50 × c in whole blocks and what remains
  parted : (c / (2 * pop)) * (100 * pop) + 50 * remainder pop c ≡ 50 * c
  parted =
      let q = c / (2 * pop) in
      let halves : q * (100 * pop) ≡ 50 * (q * (2 * pop)) =
      ap (λ (n : ℕ). q * n) (mul_assoc 50 2 pop) ∙ mul_left_comm q 50 (2 * pop) in
      ap (λ (n : ℕ). n + 50 * remainder pop c) halves
      ∙ sym (mul-add 50 (q * (2 * pop)) (remainder pop c))
      ∙ ap (λ (n : ℕ). 50 * n) (div-add-mod' c (2 * pop))

  below : 50 * remainder pop c < 100 * pop
  below =
      let two : 0 < 2 * pop = omega (arith, some) in
      omega (arith, mod-lt c two)

  quotient_is : 50 * c / (100 * pop) ≡ c / (2 * pop)
  quotient_is = ap (λ (n : ℕ). n / (100 * pop)) (sym parted) ∙ digits_div (c / (2 * pop)) below

  rest-is : 50 * c % (100 * pop) ≡ 50 * remainder pop c
  rest-is = ap (λ (n : ℕ). n % (100 * pop)) (sym parted) ∙ digits_mod (c / (2 * pop)) below

-- something remains of both or of neither
both-remain : (r : ℕ) → ltb 0 (50 * r) ≡ ltb 0 r
both-remain r =
    by-test (ltb 0 r)
    (λ t. lt-ltb 0 (50 * r) (omega (arith, ltb-true 0 r t)) ∙ sym t)
    (λ t. le-ltb 0 (50 * r) (omega (arith, ltb-false 0 r t)) ∙ sym t)

-- ---- blocks

module _ (h : Holding) (c : ℕ) (some : 0 < h.population.0) (covered : h.covered.0 ≡ 50 * c) where
  abbrev pop : ℕ
  pop = h.population.0

  rest : blocks.remainder h ≡ 50 * remainder pop c
  unfolding blocks.remainder
  rest = ap (λ (n : ℕ). n % (100 * pop)) covered ∙ rest-is pop c some

  up : blocks.rounds_up h ≡ rounds_up pop c
  unfolding blocks.rounds_up
  up = ap (leb (99 * pop)) rest

  pub as_before : AsBefore h c
  unfolding blocks.whole_blocks blocks.partial blocks.value blocks.size
  as_before = record {
    covered = covered;
    whole = λ i. (ap (λ (n : ℕ). n / (100 * pop)) covered ∙ quotient_is pop c some) i + flag (up i);
    part = (λ i. not (up i) && ltb 0 (rest i)) ∙ ap (λ (b : Bool). not (rounds_up pop c) && b) (both-remain (remainder pop c));
    value = ap (λ (n : ℕ). h.weight * n) rest
        ∙ mul_left_comm h.weight 50 (remainder pop c)
        ∙ sym (mul_assoc 50 h.weight (remainder pop c));
    size = refl;
  }

-- an area of a map, for licences that are all 50 MHz wide
pub full-width : (ls : List Licence) {s : List ℕ} (a : Area) → AreaHolds s a → FullWidths ls
    → AsBefore (holding_of ls a) (covered_people ls a)
full-width ls a h full = as_before (holding_of ls a) (covered_people ls a) h.peopled.0 (full-covered ls a full)
