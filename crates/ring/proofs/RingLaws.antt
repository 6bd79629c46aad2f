-- Laws of the ring of a set, and of the sizes of a grid. Assumes nothing.
use Prim.Native.Nat.{ℕ, zero, suc, ◌+◌, ◌-◌, ◌*◌, ◌%◌, ◌≤◌, ◌<◌}
use mathlib.Core.Path.{◌≡◌, refl, sym, ◌∙◌}
use mathlib.Core.Bool.{Bool, true, false, not, ◌&&◌}
use mathlib.Core.List.{List}
use native.Mathlib.Omega.{arith}
use native.Mathlib.Nat.{mul-le-mul}
use lib.ListN.{get_or}
use lib.Dec.{leb, ltb, eqb}
use borrow.Author.Tests.{leb-true, ltb-true, le-leb, lt-ltb, eqb-false, not-true}
use Rattle.lists.specs.Sums.{some_below}
use Rattle.lists.proofs.Tests.{by-test, both, first_of, second-of}
use Rattle.lists.proofs.BelowLaws.{some_below-at, first_below, some_same}
use Rattle.ring.specs.Ring.{Places, above, below, left, right, some_side, all_sides, around, outside, edge, ring, shown, seen, fits}

-- ---- the sizes of a grid

-- rows and columns in their limits, with a byte for each place
pub record Sizes (rows columns bytes : ℕ) : Type 0 where
  pub some : 1 ≤ columns
  pub narrow : columns ≤ 256
  pub low : rows ≤ 256
  pub long : rows * columns ≤ bytes

pub fits_in : (rows columns bytes : ℕ) → fits rows columns bytes ≡ true → Sizes rows columns bytes
unfolding fits
fits_in rows columns bytes h =
    let a = leb 1 columns in
    let b = leb columns 256 in
    let c = leb rows 256 in
    let abc = first_of (a && b && c) (leb (rows * columns) bytes) h in
    let ab = first_of (a && b) c abc in
    record {
      some = leb-true 1 columns (first_of a b ab);
      narrow = leb-true columns 256 (second-of a b ab);
      low = leb-true rows 256 (second-of (a && b) c abc);
      long = leb-true (rows * columns) bytes (second-of (a && b && c) (leb (rows * columns) bytes) h);
    }

pub fits-of : (rows columns bytes : ℕ) → Sizes rows columns bytes → fits rows columns bytes ≡ true
unfolding fits
fits-of rows columns bytes s =
    both (both (both (le-leb 1 columns s.some) (le-leb columns 256 s.narrow)) (le-leb rows 256 s.low))
    (le-leb (rows * columns) bytes s.long)

-- a grid has at most 65,536 places
pub few-places : (rows columns bytes : ℕ) → Sizes rows columns bytes → rows * columns ≤ 65536
few-places rows columns bytes s = mul-le-mul s.low s.narrow

-- ---- where the places of a ring are

-- a cell of the grid outside the set
pub record Outside (cells f : Places) (n i : ℕ) : Type 0 where
  pub low : i < n
  pub cell : cells i ≡ true
  pub out : f i ≡ false

module _ (cells f : Places) (n : ℕ) where
  pub outside-in : (i : ℕ) → outside cells f n i ≡ true → Outside cells f n i
  unfolding outside
  outside-in i h =
      let r = second-of (ltb i n) (cells i && not (f i)) h in
      record {
        low = ltb-true i n (first_of (ltb i n) (cells i && not (f i)) h);
        cell = first_of (cells i) (not (f i)) r;
        out = not-true (f i) (second-of (cells i) (not (f i)) r);
      }

  module _ (columns : ℕ) where
    pub around-in : (i : ℕ) → around cells f n columns i ≡ true → Outside cells f n i
    unfolding around
    around-in i h =
        let s = not (f i) && some_side f n columns i in
        let r = second-of (ltb i n) (cells i && s) h in
        record {
          low = ltb-true i n (first_of (ltb i n) (cells i && s) h);
          cell = first_of (cells i) s r;
          out = not-true (f i) (first_of (not (f i)) (some_side f n columns i) (second-of (cells i) s r));
        }

    pub edge_in : (i : ℕ) → edge f n columns i ≡ true → (i < n) × (f i ≡ true)
    unfolding edge
    edge_in i h =
        let s = f i && not (all_sides f n columns i) in (
          ltb-true i n (first_of (ltb i n) s h),
          first_of (f i) (not (all_sides f n columns i)) (second-of (ltb i n) s h),
        )

    -- growing, by whether some cell neighbours the set
    ring-near : (i : ℕ) → some_below (around cells f n columns) n ≡ true → ring true cells f n columns i ≡ around cells f n columns i
    unfolding ring
    ring-near i t = rw t

    ring-all : (i : ℕ) → some_below (around cells f n columns) n ≡ false → ring true cells f n columns i ≡ outside cells f n i
    unfolding ring
    ring-all i t = rw t

    ring-edge : (i : ℕ) → ring false cells f n columns i ≡ edge f n columns i
    unfolding ring
    ring-edge i = refl

    ring-outside : (i : ℕ) → ring true cells f n columns i ≡ true → Outside cells f n i
    ring-outside i h = by-test (some_below (around cells f n columns) n)
        (λ t. around-in i (sym (ring-near i t) ∙ h))
        (λ t. outside-in i (sym (ring-all i t) ∙ h))

-- a place of the ring is outside the set growing, and in it shrinking
pub ring_in : (g : Bool) (cells f : Places) (n columns i : ℕ) → ring g cells f n columns i ≡ true → f i ≡ not g
ring_in true cells f n columns i h = (ring-outside cells f n columns i h).out
ring_in false cells f n columns i h = (edge_in cells f n columns i (sym (ring-edge cells f n columns i) ∙ h)).1

-- it is a place of the grid
pub ring-below : (g : Bool) (cells f : Places) (n columns i : ℕ) → ring g cells f n columns i ≡ true → i < n
ring-below true cells f n columns i h = (ring-outside cells f n columns i h).low
ring-below false cells f n columns i h = (edge_in cells f n columns i (sym (ring-edge cells f n columns i) ∙ h)).0

-- ---- the ring goes by the places of the grid alone

-- a test, and another that agrees with a third where the first passes
and_same : (b x y : Bool) → (b ≡ true → x ≡ y) → (b && x) ≡ (b && y)
and_same true x y h = h refl
and_same false x y h = refl

-- a place that is not in the last column has a next place in the grid
next-in : (n columns i : ℕ) → i < n → n % columns ≡ 0 → ((i + 1) % columns ≡ 0 → ⊥) → i + 1 < n
next-in n columns i l whole h =
    let ne : i + 1 ≡ n → ⊥ = λ e. h (rw e whole) in
    omega arith

module _ (f h : Places) (n columns : ℕ) (same : (j : ℕ) → j < n → f j ≡ h j) (whole : n % columns ≡ 0) (i : ℕ) (low : i < n) where
  above_same : above f columns i ≡ above h columns i
  unfolding above
  above_same = and_same (leb columns i) (f (i - columns)) (h (i - columns)) (λ t. same (i - columns) (omega arith))

  below-same : below f n columns i ≡ below h n columns i
  unfolding below
  below-same = and_same (ltb (i + columns) n) (f (i + columns)) (h (i + columns)) (λ t. same (i + columns) (ltb-true (i + columns) n t))

  left-same : left f columns i ≡ left h columns i
  unfolding left
  left-same = and_same (not (eqb (i % columns) 0)) (f (i - 1)) (h (i - 1)) (λ t. same (i - 1) (omega arith))

  right-same : right f columns i ≡ right h columns i
  unfolding right
  right-same =
      let m = (i + 1) % columns in
      and_same (not (eqb m 0)) (f (i + 1)) (h (i + 1))
      (λ t. same (i + 1) (next-in n columns i low whole (eqb-false m 0 (not-true (eqb m 0) t))))

  edge_same : edge f n columns i ≡ edge h n columns i
  unfolding edge all_sides
  edge_same = rw (same i low, above_same, below-same, left-same, right-same)

  module _ (cells lands : Places) (also : (j : ℕ) → j < n → cells j ≡ lands j) where
    around-same : around cells f n columns i ≡ around lands h n columns i
    unfolding around some_side
    around-same = rw (same i low, also i low, above_same, below-same, left-same, right-same)

    outside-same : outside cells f n i ≡ outside lands h n i
    unfolding outside
    outside-same = rw (same i low, also i low)

pub ring-same : (g : Bool) (cells lands f h : Places) (n columns : ℕ) → ((j : ℕ) → j < n → f j ≡ h j)
    → ((j : ℕ) → j < n → cells j ≡ lands j) → n % columns ≡ 0 → (i : ℕ) → i < n
    → ring g cells f n columns i ≡ ring g lands h n columns i
unfolding ring
ring-same true cells lands f h n columns same also whole i low = rw (
  some_same (around cells f n columns) (around lands h n columns) n
      (λ j b. around-same f h n columns same whole j b cells lands also),
  around-same f h n columns same whole i low cells lands also,
  outside-same f h n columns same whole i low cells lands also,
)
ring-same false cells lands f h n columns same also whole i low = edge_same f h n columns same whole i low

-- ---- each round changes the set

-- a set with a place has an edge: the place above its first place is not in it
pub shrinks : (cells f : Places) (n columns : ℕ) → 0 < columns → some_below f n ≡ true
    → some_below (ring false cells f n columns) n ≡ true
unfolding ring edge all_sides above
shrinks cells f n columns w h =
    let r = first_below f n h in
    let up : (leb columns r.at && f (r.at - columns)) ≡ false = by-test (leb columns r.at)
    (λ t. let l = leb-true columns r.at t in rw t (r.none (r.at - columns) (omega arith)))
    (λ t. rw t) in
    some_below-at (ring false cells f n columns) n r.at r.low (rw (lt-ltb r.at n r.low, r.passes, up))

-- where a cell is outside the set, there is a ring to grow into
pub grows : (cells f : Places) (n columns : ℕ) → some_below (outside cells f n) n ≡ true
    → some_below (ring true cells f n columns) n ≡ true
grows cells f n columns h = by-test (some_below (around cells f n columns) n)
    (λ t.
    let r = first_below (around cells f n columns) n t in
    some_below-at (ring true cells f n columns) n r.at r.low (ring-near cells f n columns r.at t ∙ r.passes))
    (λ t.
    let r = first_below (outside cells f n) n h in
    some_below-at (ring true cells f n columns) n r.at r.low (ring-all cells f n columns r.at t ∙ r.passes))

-- ---- a mask without marks

plain : (b : ℕ) → b ≤ 1 → not (eqb b 0) ≡ eqb b 1
plain zero h = refl
plain (suc zero) h = refl
plain (suc (suc b)) h = absurd (omega arith)

pub seen_plain : (grow : Bool) (mask : List ℕ) (n : ℕ) → ((i : ℕ) → i < n → get_or mask i 0 ≤ 1)
    → (i : ℕ) → i < n → seen grow mask i ≡ shown mask i
unfolding seen
seen_plain true mask n small i low = refl
seen_plain false mask n small i low = plain (get_or mask i 0) (small i low)
