-- Laws of the limits, of the loops that test and count, and of V within the limits. Assumes nothing.
use Prim.Native.Nat.{ℕ, zero, suc, ◌+◌, ◌*◌, ◌≤◌, ◌<◌}
use mathlib.Core.Path.{◌≡◌, refl, sym, ap, ◌∙◌}
use mathlib.Core.Bool.{Bool, true, false, not, ◌&&◌, ◌||◌}
use mathlib.Core.List.{List}
use native.Mathlib.Omega.{arith}
use native.Mathlib.Nat.{mul-le-mul}
use native.Mathlib.Numerals.{add-one}
use lib.Dec.{leb, ltb}
use lib.ListN.{length, get_or, take}
use Rattle.std.specs.List.{list_any}
use Rattle.std.proofs.lemmas.List.Folds.{list_any_more}
use borrow.Author.Tests.{leb-true, ltb-true, ltb-false, not-true, eq-eqb, ne_eqb}
use Rattle.units.specs.Sums.{capped}
use Rattle.units.proofs.Laws.{exact}
use Rattle.lists.specs.Sums.{some_below, sum_below}
use Rattle.lists.proofs.Tests.{first_of, second-of}
use Rattle.lists.proofs.BelowLaws.{none_below, sum-most}
use Rattle.ring.specs.Ring.{Places, shown, fits}
use Rattle.ring.proofs.RingLaws.{fits_in}
use Rattle.rounds.specs.Footprint.{value}
use Rattle.rounds.specs.Promises.{area_of, in_limits}
use Rattle.rounds.specs.Code.{sizes_fit, some_above, Limited, Within, Countable, people_with}

-- ---- numbers above a limit

-- a search through the first n numbers
pub any_above : (limit : ℕ) (l : List ℕ) (n : ℕ) → n ≤ length l → list_any (λ (x : ℕ). ltb limit x) (take n l) ≡ some_above limit l n
unfolding some_above some_below
any_above limit l zero h = refl
any_above limit l (suc n) h =
    let p : ℕ → Bool = λ x. ltb limit x in
    ap (λ (k : ℕ). list_any p (take k l)) (sym (add-one n)) ∙ list_any_more p l n 0 (omega arith)
    ∙ ap (λ (t : Bool). t || p (get_or l n 0)) (any_above limit l n (omega arith))

-- ---- a loop that counts people

pub record Counted (mask people : List ℕ) (n byte sum i : ℕ) : Type 0 where
  pub low : i ≤ n
  pub most : sum ≤ 1_000_000 * i
  pub is : sum ≡ people_with mask people i byte

pub counted-starts : (mask people : List ℕ) (n byte : ℕ) → Counted mask people n byte 0 0
unfolding people_with sum_below
counted-starts mask people n byte = record { low = omega arith; most = omega arith; is = refl }

module _ {mask people : List ℕ} {n byte sum i : ℕ} (c : Counted mask people n byte sum i) (k : Countable mask people n) (h : i < n) where
  pub counted-adds : {p : ℕ} → get_or mask i 0 ≡ byte → p ≡ get_or people i 0 → Counted mask people n byte (sum + p) (i + 1)
  unfolding people_with sum_below
  counted-adds t e =
      let few = k.few i h in
      let most = c.most in
      record {
        low = omega arith;
        most = omega arith;
        is = rw (add-one i, eq-eqb (get_or mask i 0) byte t) (λ j. c.is j + e j);
      }

  pub counted-skips : {p : ℕ} → (get_or mask i 0 ≡ byte → ⊥) → p ≡ 0 → Counted mask people n byte (sum + p) (i + 1)
  unfolding people_with sum_below
  counted-skips t e =
      let most = c.most in
      record {
        low = omega arith;
        most = omega arith;
        is = rw (add-one i, ne_eqb (get_or mask i 0) byte t) (omega (arith, c.is));
      }

-- ---- people and V within the limits

-- the people of a set
pub set-most : (people : List ℕ) (f : Places) (n : ℕ) → ((i : ℕ) → i < n → get_or people i 0 ≤ 1_000_000) → n ≤ 65535
    → sum_below (λ i. get_or people i 0) f n ≤ 65535 * 1_000_000
set-most people f n few l = omega (arith, sum-most (λ i. get_or people i 0) f 1_000_000 n few)

value-most : (weight people : ℕ) → weight ≤ 65535 → people ≤ 65535 * 1_000_000 → 100 * weight * people ≤ 6553500 * 65535000000
value-most weight people l m = let u : 100 * weight ≤ 6553500 = omega arith in mul-le-mul u m

-- V is exact
pub value-exact : (weight people : ℕ) → weight ≤ 65535 → people ≤ 65535 * 1_000_000
    → capped (100 * weight * people) ≡ 100 * weight * people
value-exact weight people l m = exact (100 * weight * people) (omega (arith, value-most weight people l m))

-- ---- what the limits say

-- no number is above the limit
pub none_above : (limit : ℕ) (l : List ℕ) (n : ℕ) → some_above limit l n ≡ false → (i : ℕ) → i < n → get_or l i 0 ≤ limit
unfolding some_above
none_above limit l n h i k = ltb-false limit (get_or l i 0) (none_below (λ (j : ℕ). ltb limit (get_or l j 0)) n h i k)

module _ (rows columns : ℕ) (mask cells people : List ℕ) where
  -- the sizes, each by itself
  pub record SizesFit : Type 0 where
    pub masked : fits rows columns (length mask) ≡ true
    pub celled : fits rows columns (length cells) ≡ true
    pub counted : rows * columns ≤ length people
    pub numbered : rows * columns ≤ 65535

  pub sizes-in : sizes_fit rows columns (length mask) (length cells) (length people) ≡ true → SizesFit
  unfolding sizes_fit
  sizes-in h =
      let n = rows * columns in
      let m = fits rows columns (length mask) in
      let c = fits rows columns (length cells) in
      let three = first_of (m && c && leb n (length people)) (leb n 65535) h in
      let two = first_of (m && c) (leb n (length people)) three in
      record {
        masked = first_of m c two;
        celled = second-of m c two;
        counted = leb-true n (length people) (second-of (m && c) (leb n (length people)) three);
        numbered = leb-true n 65535 (second-of (m && c && leb n (length people)) (leb n 65535) h);
      }

module _ (rows columns weight share : ℕ) (mask cells people : List ℕ) where
  pub limits-are : in_limits (area_of rows columns weight cells people) share mask cells people
      ≡ (sizes_fit rows columns (length mask) (length cells) (length people) && leb 1 weight && leb weight 65535
      && not (some_above 1 mask (rows * columns)) && not (some_above 1_000_000 people (rows * columns))
      && ltb 0 share && ltb share (value (area_of rows columns weight cells people) (shown cells)))
  unfolding in_limits sizes_fit some_above
  limits-are = refl

  pub within-limits : in_limits (area_of rows columns weight cells people) share mask cells people ≡ true
      → Within rows columns weight share mask cells people
  within-limits h =
      let n = rows * columns in
      let s = sizes_fit rows columns (length mask) (length cells) (length people) in
      let m = not (some_above 1 mask n) in
      let p = not (some_above 1_000_000 people n) in
      let v = ltb share (value (area_of rows columns weight cells people) (shown cells)) in
      let seven = sym limits-are ∙ h in
      let six = first_of (s && leb 1 weight && leb weight 65535 && m && p && ltb 0 share) v seven in
      let five = first_of (s && leb 1 weight && leb weight 65535 && m && p) (ltb 0 share) six in
      let four = first_of (s && leb 1 weight && leb weight 65535 && m) p five in
      let three = first_of (s && leb 1 weight && leb weight 65535) m four in
      let two = first_of (s && leb 1 weight) (leb weight 65535) three in
      let sizes = sizes-in rows columns mask cells people (first_of s (leb 1 weight) two) in
      record {
        limits = record {
          celled = sizes.celled;
          counted = sizes.counted;
          numbered = sizes.numbered;
          heavy = leb-true 1 weight (second-of s (leb 1 weight) two);
          light = leb-true weight 65535 (second-of (s && leb 1 weight) (leb weight 65535) three);
          few = none_above 1_000_000 people n
              (not-true (some_above 1_000_000 people n) (second-of (s && leb 1 weight && leb weight 65535 && m) p five));
          above = ltb-true 0 share (second-of (s && leb 1 weight && leb weight 65535 && m && p) (ltb 0 share) six);
          below = ltb-true share (value (area_of rows columns weight cells people) (shown cells))
              (second-of (s && leb 1 weight && leb weight 65535 && m && p && ltb 0 share) v seven);
        };
        masked = sizes.masked;
        plain = none_above 1 mask n (not-true (some_above 1 mask n) (second-of (s && leb 1 weight && leb weight 65535) m four));
      }

-- ---- what is known within the limits

module _ {rows columns weight share : ℕ} {cells people : List ℕ} (l : Limited rows columns weight share cells people) where
  pub people-most : (f : Places) → sum_below (λ i. get_or people i 0) f (rows * columns) ≤ 65535 * 1_000_000
  people-most f = set-most people f (rows * columns) l.few l.numbered

  -- a mask with a byte for each place
  pub countable : (mask : List ℕ) → fits rows columns (length mask) ≡ true → Countable mask people (rows * columns)
  countable mask h = record {
    long = (fits_in rows columns (length mask) h).long;
    counted = l.counted;
    numbered = l.numbered;
    few = l.few;
  }
