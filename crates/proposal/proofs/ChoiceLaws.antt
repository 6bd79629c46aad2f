-- The choices of n areas are the lists of n marks, and a choice is told by its partial area and its set number. Assumes nothing.
use Prim.Native.Nat.compare
use Prim.Native.Nat.{ℕ, zero, suc, ◌+◌, ◌-◌, ◌*◌, ◌/◌, ◌%◌, ◌<◌, ◌≤◌}
use mathlib.Core.Path.{◌≡◌, refl, sym, ap, ◌∙◌}
use mathlib.Core.Bool.{true, false, false≢true}
use mathlib.Core.Logic.{◌↔◌, ◌⊎◌, inl, inr, ⊎_elim}
use mathlib.Core.List.Memᴰ
use mathlib.Core.List.{
  List,
  [],
  ◌∷◌,
  map,
  Memᴰ,
}
use native.Mathlib.Nat.{mul_assoc, mul-add, zero-add}
use native.Mathlib.Omega.{arith}
use lib.Dec.{eqb}
use lib.ListN.{length}
use borrow.Author.Tests.{eqb-true, eq-eqb, ne_eqb}
use Rattle.lists.proofs.FilterLaws.{mem-map, map-mem}
use Rattle.search.specs.Choice.{Mark, out, whole, part, parts, entry_from, number_from, entry, number}
use Rattle.subset.specs.Sets as sets
use Rattle.proposal.specs.Choices.{choices, is_part, makes_part, no_part, set_number}
use Rattle.proposal.specs.Code.{mark_of, decode}

-- ---- all choices

abbrev with : Mark → List Mark → List Mark
with m c = m ∷ c

pub in-choices : (n : ℕ) (c : List Mark) → length c ≡ n → Memᴰ c (choices n)
unfolding choices
in-choices zero [] h = Memᴰ.head refl
in-choices zero (m ∷ c) h = absurd (omega arith)
in-choices (suc n) [] h = absurd (omega arith)
in-choices (suc n) (m ∷ c) h = of m (mem-map (with m) (choices n) c (in-choices n c (omega arith)))
  where
    of : (m : Mark) → Memᴰ (m ∷ c) (map (with m) (choices n)) → Memᴰ (m ∷ c) (choices (suc n))
    of out q = Memᴰ.append_left _ q
    of whole q = Memᴰ.append_right (map (with out) (choices n)) (Memᴰ.append_left _ q)
    of part q = Memᴰ.append_right (map (with out) (choices n)) (Memᴰ.append_right (map (with whole) (choices n)) q)

pub choice-length : (n : ℕ) (c : List Mark) → Memᴰ c (choices n) → length c ≡ n
unfolding choices
choice-length zero c q = ⊎_elim (λ s. ap length s) (λ r. absurd (Memᴰ.not-nil r)) (Memᴰ.cases_cons q)
choice-length (suc n) c q =
    ⊎_elim (λ a. of (choice-length n) out a)
    (λ b. ⊎_elim (λ a. of (choice-length n) whole a) (λ a. of (choice-length n) part a)
    (Memᴰ.append_cases (map (with whole) (choices n)) b))
    (Memᴰ.append_cases (map (with out) (choices n)) q)
  where
    of : ((d : List Mark) → Memᴰ d (choices n) → length d ≡ n) →
        (m : Mark) → Memᴰ c (map (with m) (choices n)) → length c ≡ suc n
    of shorter m h = let r = map-mem (with m) (choices n) c h in ap length r.2 ∙ ap suc (shorter r.0 r.1)

-- ---- set numbers

number-none : set_number [] ≡ 0
unfolding sets.set_number
number-none = refl

number-left : (c : List Mark) → set_number (out ∷ c) ≡ 2 * set_number c
unfolding sets.set_number
number-left c = zero-add (2 * set_number c)

number-whole : (c : List Mark) → set_number (whole ∷ c) ≡ 1 + 2 * set_number c
unfolding sets.set_number
number-whole c = refl

number-part : (c : List Mark) → set_number (part ∷ c) ≡ 2 * set_number c
unfolding sets.set_number
number-part c = zero-add (2 * set_number c)

-- the search adds the set number up with the ones place first
number-from : (c : List Mark) (s bit : ℕ) → number_from s bit c ≡ s + bit * set_number c
unfolding number_from
number-from [] s bit = omega (arith, ap (λ n. bit * n) number-none)
number-from (out ∷ c) s bit =
    number-from c s (bit * 2) ∙ omega (arith, mul_assoc bit 2 (set_number c), ap (λ n. bit * n) (number-left c))
number-from (whole ∷ c) s bit =
    number-from c (s + bit) (bit * 2)
    ∙ omega (arith, mul_assoc bit 2 (set_number c), mul-add bit 1 (2 * set_number c), ap (λ n. bit * n) (number-whole c))
number-from (part ∷ c) s bit =
    number-from c s (bit * 2) ∙ omega (arith, mul_assoc bit 2 (set_number c), ap (λ n. bit * n) (number-part c))

pub number_same : (c : List Mark) → number c ≡ set_number c
number_same c = number-from c 0 1 ∙ omega arith

-- ---- the partial area

-- the place of the first partial area
unfoldable pub spot : List Mark → ℕ
spot [] = 0
spot (out ∷ c) = suc (spot c)
spot (whole ∷ c) = suc (spot c)
spot (part ∷ c) = 0

module _ (k e n : ℕ) (c : List Mark) where
  decode-left : eqb e 1 ≡ false → decode k (e - 1) n ≡ c → decode (suc k) e (2 * n) ≡ out ∷ c
  unfolding decode mark_of
  decode-left h d =
      let half : 2 * n / 2 ≡ n = omega arith in
      rw (h, ne_eqb (2 * n % 2) 1 (λ q. omega arith), half) (ap (λ q. out ∷ q) d)

  decode-whole : eqb e 1 ≡ false → decode k (e - 1) n ≡ c → decode (suc k) e (1 + 2 * n) ≡ whole ∷ c
  unfolding decode mark_of
  decode-whole h d =
      let half : (1 + 2 * n) / 2 ≡ n = omega arith in
      rw (h, eq-eqb ((1 + 2 * n) % 2) 1 (omega arith), half) (ap (λ q. whole ∷ q) d)

decode-part : (k n : ℕ) (c : List Mark) → decode k 0 n ≡ c → decode (suc k) 1 (2 * n) ≡ part ∷ c
unfolding decode mark_of
decode-part k n c d = let half : 2 * n / 2 ≡ n = omega arith in rw half (ap (λ q. part ∷ q) d)

-- a choice without a partial area
pub record NoPart (c : List Mark) : Type 0 where
  pub its-entry : (at e : ℕ) → entry_from at e c ≡ e
  pub no-mark : (p : ℕ) → makes_part p c ≡ false
  pub is_none : no_part c ≡ true
  pub decoded : decode (length c) 0 (set_number c) ≡ c

pub no-part : (c : List Mark) → parts c ≡ 0 → NoPart c
unfolding parts entry_from makes_part no_part decode
no-part [] h = record { its-entry = λ at e. refl; no-mark = λ p. refl; is_none = refl; decoded = refl }
no-part (out ∷ c) h =
    let r = no-part c h in
    record {
      its-entry = λ at e. r.its-entry (at + 1) e;
      no-mark = marks r;
      is_none = r.is_none;
      decoded = rw (number-left c) (decode-left (length c) 0 (set_number c) c refl r.decoded);
    }
  where
    marks : NoPart c → (p : ℕ) → makes_part p (out ∷ c) ≡ false
    marks r zero = refl
    marks r (suc p) = r.no-mark p
no-part (whole ∷ c) h =
    let r = no-part c h in
    record {
      its-entry = λ at e. r.its-entry (at + 1) e;
      no-mark = marks r;
      is_none = r.is_none;
      decoded = rw (number-whole c) (decode-whole (length c) 0 (set_number c) c refl r.decoded);
    }
  where
    marks : NoPart c → (p : ℕ) → makes_part p (whole ∷ c) ≡ false
    marks r zero = refl
    marks r (suc p) = r.no-mark p
no-part (part ∷ c) h = absurd (omega arith)

-- a choice with one
pub record OnePart (c : List Mark) : Type 0 where
  pub its-entry : (at e : ℕ) → entry_from at e c ≡ at + suc (spot c)
  pub its-mark : (p : ℕ) → makes_part p c ≡ eqb p (spot c)
  pub not_none : no_part c ≡ false
  pub decoded : decode (length c) (suc (spot c)) (set_number c) ≡ c

later-one : (m : Mark) (c : List Mark) → is_part m ≡ false → spot (m ∷ c) ≡ suc (spot c) → OnePart c
    → (p : ℕ) → makes_part p (m ∷ c) ≡ eqb p (spot (m ∷ c))
unfolding makes_part
later-one m c h e r zero = h ∙ sym (ne_eqb zero (spot (m ∷ c)) (λ q. omega arith))
later-one m c h e r (suc p) = r.its-mark p ∙ sym (ap (λ j. eqb (suc p) j) e ∙ rw (compare.suc-suc p (spot c)))

pub one-part : (c : List Mark) → parts c ≡ 1 → OnePart c
unfolding parts entry_from makes_part no_part spot
one-part [] h = absurd (omega arith)
one-part (out ∷ c) h =
    let r = one-part c h in
    let e : suc (suc (spot c)) - 1 ≡ suc (spot c) = omega arith in
    let not_first = ne_eqb (suc (suc (spot c))) 1 (λ q. omega arith) in
    record {
      its-entry = λ at e. r.its-entry (at + 1) e ∙ omega arith;
      its-mark = later-one out c refl refl r;
      not_none = r.not_none;
      decoded = rw (number-left c) (decode-left (length c) (suc (suc (spot c))) (set_number c) c not_first (rw e r.decoded));
    }
one-part (whole ∷ c) h =
    let r = one-part c h in
    let e : suc (suc (spot c)) - 1 ≡ suc (spot c) = omega arith in
    let not_first = ne_eqb (suc (suc (spot c))) 1 (λ q. omega arith) in
    record {
      its-entry = λ at e. r.its-entry (at + 1) e ∙ omega arith;
      its-mark = later-one whole c refl refl r;
      not_none = r.not_none;
      decoded = rw (number-whole c) (decode-whole (length c) (suc (suc (spot c))) (set_number c) c not_first (rw e r.decoded));
    }
one-part (part ∷ c) h =
    let r = no-part c (omega arith) in
    record {
      its-entry = λ at e. r.its-entry (at + 1) (at + 1) ∙ omega arith;
      its-mark = first r;
      not_none = refl;
      decoded = rw (number-part c) (decode-part (length c) (set_number c) c r.decoded);
    }
  where
    first : NoPart c → (p : ℕ) → makes_part p (part ∷ c) ≡ eqb p 0
    first r zero = refl
    first r (suc p) = r.no-mark p ∙ sym (ne_eqb (suc p) 0 (λ q. omega arith))

-- ---- by the number of partial areas

-- none, one or more
pub shapes : (c : List Mark) → (parts c ≡ 0) ⊎ ((parts c ≡ 1) ⊎ (1 < parts c))
shapes c = split (parts c) refl
  where
    split : (n : ℕ) → parts c ≡ n → (parts c ≡ 0) ⊎ ((parts c ≡ 1) ⊎ (1 < parts c))
    split zero e = inl e
    split (suc zero) e = inr (inl e)
    split (suc (suc n)) e = inr (inr (omega arith))

-- at most one
pub shape : (c : List Mark) → parts c ≤ 1 → (parts c ≡ 0) ⊎ (parts c ≡ 1)
shape c h = ⊎_elim (λ o. inl o) (λ r. ⊎_elim (λ o. inr o) (λ m. absurd (omega arith)) r) (shapes c)

pub entry-none : (c : List Mark) → parts c ≡ 0 → entry c ≡ 0
entry-none c o = (no-part c o).its-entry 0 0

pub entry-one : (c : List Mark) → parts c ≡ 1 → entry c ≡ suc (spot c)
entry-one c o = (one-part c o).its-entry 0 0 ∙ zero-add (suc (spot c))

module _ (c : List Mark) (h : parts c ≤ 1) where
  -- a choice is told by its entry and its set number
  pub decoded : decode (length c) (entry c) (set_number c) ≡ c
  decoded =
      ⊎_elim
      (λ o. ap (λ e. decode (length c) e (set_number c)) (entry-none c o) ∙ (no-part c o).decoded)
      (λ o. ap (λ e. decode (length c) e (set_number c)) (entry-one c o) ∙ (one-part c o).decoded)
      (shape c h)

  -- the entry is one more than the place that is partial
  pub part-entry : (p : ℕ) → (makes_part p c ≡ true) ↔ (entry c ≡ suc p)
  part-entry p =
      ⊎_elim
      (λ o. (
        λ m. absurd (false≢true (sym ((no-part c o).no-mark p) ∙ m)),
        λ e. absurd (let z = entry-none c o in omega arith),
      ))
      (λ o. (
        λ m. entry-one c o ∙ ap suc (sym (eqb-true p (spot c) (sym ((one-part c o).its-mark p) ∙ m))),
        λ e. (one-part c o).its-mark p ∙ eq-eqb p (spot c) (let z = entry-one c o in omega arith),
      ))
      (shape c h)

  -- and 0 where none is
  pub none-entry : (no_part c ≡ true) ↔ (entry c ≡ 0)
  none-entry =
      ⊎_elim
      (λ o. (λ m. entry-none c o, λ e. (no-part c o).is_none))
      (λ o. (
        λ m. absurd (false≢true (sym (one-part c o).not_none ∙ m)),
        λ e. absurd (let z = entry-one c o in omega arith),
      ))
      (shape c h)

-- two choices that make the same area partial have one entry
pub same-entry : (d c : List Mark) → parts d ≤ 1 → parts c ≤ 1 → ((p : ℕ) → makes_part p d ≡ makes_part p c) → entry d ≡ entry c
same-entry d c h k same =
    ⊎_elim
    (λ o. ⊎_elim
    (λ u. entry-none d u ∙ sym (entry-none c o))
    (λ u. absurd (false≢true (sym ((no-part c o).no-mark (spot d)) ∙ sym (same (spot d)) ∙ at d u)))
    (shape d h))
    (λ o. (part-entry d h (spot c)).0 (same (spot c) ∙ at c o) ∙ sym (entry-one c o))
    (shape c k)
  where
    at : (c : List Mark) → parts c ≡ 1 → makes_part (spot c) c ≡ true
    at c o = (one-part c o).its-mark (spot c) ∙ eq-eqb (spot c) (spot c) refl
