-- Laws of what is handed out of the grounds: the loops over the places, and sums over the boxes. Assumes nothing.
use Prim.Native.Nat.{ℕ, zero, suc, ◌+◌, ◌*◌, ◌-◌, ◌≤◌, ◌<◌}
use mathlib.Core.Path.{◌≡◌, refl, sym, ap, ◌∙◌}
use mathlib.Core.Bool.{Bool, true, false}
use mathlib.Core.List.{List}
use mathlib.Core.Logic.{◌≢◌}
use native.Mathlib.Omega.{arith}
use native.Mathlib.Nat.{mul-add, mul-one, mul-zero, one-mul}
use native.Mathlib.Numerals.{add-one}
use lib.Dec.{leb, eqb}
use lib.IntN.{ℤ, pos}
use Rattle.std.specs.Prelude.{Some, is_some, unwrap_or}
use lib.ListN.{length, get_or, set, take, replicate, length-set, length-replicate, get_or-eq_default}
use lib.Seq.{take_all, get_or-set_same, get_or-set_other}
use borrow.Author.Tests.{leb-true, leb-false}
use Rattle.std.specs.Option.{option_eq}
use Rattle.std.specs.List.{IsAfterLastMatch}
use Rattle.lists.specs.Sums.{total, flag, count, sum_to}
use Rattle.lists.proofs.Tests.{by-test, not-both}
use Rattle.lists.proofs.SumLaws.{total-next, total-same}
use Rattle.lists.proofs.BelowLaws.{sum_same, sum-total, count-sum}
use Rattle.register.specs.declared.GeoBox.{GeoBox}
use Rattle.register.specs.declared.Ground.{Ground}
use Rattle.register.specs.declared.Ground.TheVariants.{Area, Box}
use Rattle.register.specs.declared.Licence.{Licence}
use Rattle.register.specs.declared.FlatLicence.{FlatLicence}
use Rattle.boxes.specs.declared.Boxes.{Boxes}
use Rattle.register.specs.Licences.{licence_of, free_place, has_sign, standing, in_force}
use Rattle.register.specs.Sums.{at_place, passes_at}
use Rattle.register.specs.Grounds.{is_area, names, ground_area, names_at, is_box, has_box, no_box, box_of, ground_box, box_at, place_box}
use Rattle.register.specs.Grounds.{box_from, LastBox, EdgesDone, BoxesDone}
use Rattle.register.proofs.Laws.{sign-is}
use Rattle.register.proofs.Sums.{in-force-total}

-- ---- what stands at a place, by its call sign

module _ (l : Licence) where
  pub free-passes : (p : Licence → Bool) → l.call_sign ≡ 0 → passes_at p l ≡ false
  unfolding passes_at
  free-passes p e = simp (sign-is 0 l e)

-- ---- a sum over the licences in force, place by place

-- the invariant of the loop at place i, where a place adds at most so much
pub record Counted (most : ℕ) (f : Licence → ℕ) (ps : List FlatLicence) (i sum : ℕ) : Type 0 where
  pub inside : i ≤ length ps
  pub small : sum ≤ most * i
  pub is : sum ≡ total (λ p. at_place f (licence_of p)) (take i ps)

pub count-starts : {most : ℕ} {f : Licence → ℕ} {ps : List FlatLicence} → Counted most f ps 0 0
count-starts {most} {f} {ps} = record { inside = omega arith; small = omega arith; is = refl }

module _ {most : ℕ} {f : Licence → ℕ} {ps : List FlatLicence} {i sum : ℕ} (w : Counted most f ps i sum) where
  pub count-turns : {n next : ℕ} → next ≡ sum + n → i < length ps → n ≡ at_place f (licence_of (get_or ps i free_place)) → n ≤ most
      → Counted most f ps (i + 1) next
  count-turns {n} a b e s = record {
    inside = omega arith;
    small = omega (arith, w.small, mul-add most i 1, mul-one most);
    is = a ∙ (λ j. w.is j + e j)
        ∙ sym (total-next (λ p. at_place f (licence_of p)) ps i free_place b)
        ∙ ap (λ (k : ℕ). total (λ p. at_place f (licence_of p)) (take k ps)) (sym (add-one i));
  }

  pub count-ends : length ps ≤ i → sum ≡ total f (in_force ps)
  count-ends b = w.is ∙ ap (total (λ p. at_place f (licence_of p))) (take_all i ps b) ∙ sym (in-force-total f ps)

-- what a licence in force with the area of a number adds to the count, and to the sum of the widths
abbrev pub named : ℕ → Licence → ℕ
named number l = flag (names number l)

abbrev pub named_width : ℕ → Licence → ℕ
named_width number l = l.width * named number l

-- what a place adds to the two sums, by whether it is counted
module _ (number : ℕ) (p : FlatLicence) where
  ground-named : (g : Ground) → option_eq eqb (ground_area g) (Some number) ≡ is_area number g
  ground-named (Area n) = refl
  ground-named (Box b) = refl

  pub counted-adds : names_at number p ≡ true →
      (1 ≡ at_place (named number) (licence_of p)) × ((licence_of p).width ≡ at_place (named_width number) (licence_of p))
  unfolding standing at_place
  counted-adds =
      by-test (has_sign 0 (licence_of p))
      (λ t e. not-both (simp t at e) refl)
      (λ t e.
      let n = sym (ground-named (licence_of p).ground) ∙ (simp t at e) in
      (simp (t, n), simp (t, n, mul-one)))

  pub passed-adds : names_at number p ≡ false →
      (0 ≡ at_place (named number) (licence_of p)) × (0 ≡ at_place (named_width number) (licence_of p))
  unfolding standing at_place
  passed-adds =
      by-test (has_sign 0 (licence_of p))
      (λ t h. (simp t, simp t))
      (λ t h.
      let n = sym (ground-named (licence_of p).ground) ∙ (simp t at h) in
      (simp (t, n), simp (t, n, mul-zero)))

-- ---- the box at a place

module _ (p : FlatLicence) where
  -- the place has a box just where one is in force there
  pub box-passes : passes_at has_box (licence_of p) ≡ is_some (box_at p)
  unfolding passes_at standing
  box-passes = by-test (has_sign 0 (licence_of p)) (λ t. simp t) (λ t. simp t (go (licence_of p).ground))
    where
      go : (g : Ground) → is_box (λ _. true) g ≡ is_some (ground_box g)
      go (Area n) = refl
      go (Box b) = refl

  -- and it is the one that is handed out
  pub box-given : unwrap_or (box_at p) no_box ≡ place_box (licence_of p)
  unfolding place_box standing
  box-given = by-test (has_sign 0 (licence_of p)) (λ t. simp t) (λ t. simp t (go (licence_of p).ground))
    where
      go : (g : Ground) → unwrap_or (ground_box g) no_box ≡ box_of g
      go (Area n) = refl
      go (Box b) = refl

-- ---- the last place with a box in force

-- the place after the last one that the search of the code finds
pub last-box : (ps : List FlatLicence) (n : ℕ) → length ps ≡ 64 → n ≤ 64
    → IsAfterLastMatch (λ (p : FlatLicence). is_some (box_at p)) ps n → LastBox ps n
last-box ps n size few h = record {
  few = few;
  past = λ i b. by-test (leb (length ps) i)
      (λ t.
      ap (λ p. passes_at has_box (licence_of p)) (get_or-eq_default ps free_place (leb-true (length ps) i t))
      ∙ free-passes (licence_of free_place) has_box refl)
      (λ t. box-passes (get_or ps i free_place) ∙ h.0 i free_place b (leb-false (length ps) i t));
  last = λ b. box-passes (get_or ps (n - 1) free_place) ∙ h.1 b free_place;
}

-- ---- the edges, box by box

-- box i of n written
abbrev pub box_set : List ℤ → (n i : ℕ) → GeoBox → List ℤ
box_set edges n i b = set (set (set (set edges i b.south) (n + i) b.north) (2 * n + i) b.west) (3 * n + i) b.east

module _ (l : List ℤ) (n i : ℕ) (b : GeoBox) where
  abbrev l1 : List ℤ
  l1 = set l i b.south

  abbrev l2 : List ℤ
  l2 = set l1 (n + i) b.north

  abbrev l3 : List ℤ
  l3 = set l2 (2 * n + i) b.west

  size1 : length l1 ≡ length l
  size1 = length-set l i b.south

  size2 : length l2 ≡ length l
  size2 = length-set l1 (n + i) b.north ∙ size1

  size3 : length l3 ≡ length l
  size3 = length-set l2 (2 * n + i) b.west ∙ size2

  set-size : length (box_set l n i b) ≡ length l
  set-size = length-set l3 (3 * n + i) b.east ∙ size3

  -- an edge of no such box stays
  elsewhere : (k : ℕ) → k ≢ i → k ≢ n + i → k ≢ 2 * n + i → k ≢ 3 * n + i →
      get_or (box_set l n i b) k (pos 0) ≡ get_or l k (pos 0)
  elsewhere k a x y z =
      get_or-set_other l3 (3 * n + i) k b.east (pos 0) z
      ∙ get_or-set_other l2 (2 * n + i) k b.west (pos 0) y
      ∙ get_or-set_other l1 (n + i) k b.north (pos 0) x
      ∙ get_or-set_other l i k b.south (pos 0) a

  -- box i is the one written
  module _ (inside : i < n) (room : 4 * n ≤ length l) where
    box-here : box_from (box_set l n i b) n i ≡ b
    box-here =
        let s1 = size1 in
        let s2 = size2 in
        let s3 = size3 in
        let south : get_or (box_set l n i b) i (pos 0) ≡ b.south =
        get_or-set_other l3 (3 * n + i) i b.east (pos 0) (λ e. omega arith)
        ∙ get_or-set_other l2 (2 * n + i) i b.west (pos 0) (λ e. omega arith)
        ∙ get_or-set_other l1 (n + i) i b.north (pos 0) (λ e. omega arith)
        ∙ get_or-set_same l i b.south (pos 0) (omega arith) in
        let north : get_or (box_set l n i b) (n + i) (pos 0) ≡ b.north =
        get_or-set_other l3 (3 * n + i) (n + i) b.east (pos 0) (λ e. omega arith)
        ∙ get_or-set_other l2 (2 * n + i) (n + i) b.west (pos 0) (λ e. omega arith)
        ∙ get_or-set_same l1 (n + i) b.north (pos 0) (omega arith) in
        let west : get_or (box_set l n i b) (2 * n + i) (pos 0) ≡ b.west =
        get_or-set_other l3 (3 * n + i) (2 * n + i) b.east (pos 0) (λ e. omega arith)
        ∙ get_or-set_same l2 (2 * n + i) b.west (pos 0) (omega arith) in
        let east : get_or (box_set l n i b) (3 * n + i) (pos 0) ≡ b.east =
        get_or-set_same l3 (3 * n + i) b.east (pos 0) (omega arith) in
        λ t. record { south = south t; north = north t; west = west t; east = east t }

    -- and every other stays
    box-other : (j : ℕ) → j < n → j ≢ i → box_from (box_set l n i b) n j ≡ box_from l n j
    box-other j h d =
        let south =
        elsewhere j d (λ e. omega arith) (λ e. omega arith) (λ e. omega arith) in
        let north =
        elsewhere (n + j) (λ e. omega arith) (λ e. d (omega arith)) (λ e. omega arith) (λ e. omega arith) in
        let west =
        elsewhere (2 * n + j) (λ e. omega arith) (λ e. omega arith) (λ e. d (omega arith)) (λ e. omega arith) in
        let east =
        elsewhere (3 * n + j) (λ e. omega arith) (λ e. omega arith) (λ e. omega arith) (λ e. d (omega arith)) in
        λ t. record { south = south t; north = north t; west = west t; east = east t }

-- the invariant of the loop over the first n places, at place i
pub record Filled (ps : List FlatLicence) (n i : ℕ) (edges : List ℤ) : Type 0 where
  pub inside : i ≤ n
  pub size : length edges ≡ 256
  pub each : (j : ℕ) → j < i → box_from edges n j ≡ place_box (licence_of (get_or ps j free_place))
  pub rest : (k : ℕ) → 4 * n ≤ k → get_or edges k (pos 0) ≡ pos 0

-- no edge is written yet
blank : (n k : ℕ) → get_or (replicate n (pos 0)) k (pos 0) ≡ pos 0
blank zero k = refl
blank (suc n) zero = refl
blank (suc n) (suc k) = blank n k

pub fill-starts : (ps : List FlatLicence) (n : ℕ) → Filled ps n 0 (replicate 256 (pos 0))
fill-starts ps n = record {
  inside = omega arith;
  size = length-replicate 256 (pos 0);
  each = λ j h. absurd (omega arith);
  rest = λ k h. blank 256 k;
}

module _ {ps : List FlatLicence} {n i : ℕ} {edges : List ℤ} (w : Filled ps n i edges) where
  pub fill-turns : {b : GeoBox} → n ≤ 64 → i < n → b ≡ place_box (licence_of (get_or ps i free_place))
      → Filled ps n (i + 1) (box_set edges n i b)
  fill-turns {b} few h e =
      let s = w.size in
      let room : 4 * n ≤ length edges = omega arith in
      record {
        inside = omega arith;
        size = set-size edges n i b ∙ w.size;
        each = λ j k. by-test (leb i j)
            (λ t.
            let same : j ≡ i = omega (arith, leb-true i j t) in
            ap (box_from (box_set edges n i b) n) same
            ∙ box-here edges n i b h room ∙ e
            ∙ ap (λ (m : ℕ). place_box (licence_of (get_or ps m free_place))) (sym same))
            (λ t.
            let less : j < i = leb-false i j t in
            box-other edges n i b h room j (omega arith) (λ d. omega arith) ∙ w.each j less);
        rest = λ k m.
            elsewhere edges n i b k (λ d. omega arith) (λ d. omega arith) (λ d. omega arith) (λ d. omega arith) ∙ w.rest k m;
      }

  pub fill-ends : n ≤ i → EdgesDone ps n edges
  fill-ends h = record { size = w.size; each = λ j k. w.each j (omega arith); rest = w.rest }

-- ---- the widths

-- the width at a place, whatever stood there
abbrev pub width_at : List FlatLicence → ℕ → ℕ → ℕ
width_at ps i _ = (licence_of (get_or ps i free_place)).width

-- ---- the boxes that pass a test

module _ (test : GeoBox → Bool) (w : Licence → ℕ) where
  -- what a licence with a box that passes adds
  abbrev adds : Licence → ℕ
  adds l = w l * flag (is_box test l.ground)

  -- where no box is in force, nothing is added
  none-adds : (l : Licence) → passes_at has_box l ≡ false → at_place adds l ≡ 0
  unfolding passes_at at_place
  none-adds l = by-test (has_sign 0 l) (λ t e. simp t) (λ t e. simp t (go l.ground (simp t at e)))
    where
      go : (g : Ground) → is_box (λ _. true) g ≡ false → w l * flag (is_box test g) ≡ 0
      go (Area n) e = mul-zero (w l)
      go (Box b) e = not-both refl e

  module _ (none : test no_box ≡ false) where
    -- the box of a place adds what one in force does
    place-adds : (l : Licence) → w l * flag (test (place_box l)) ≡ at_place adds l
    unfolding place_box at_place
    place-adds l = by-test (has_sign 0 l) (λ t. simp (t, none) (mul-zero (w l))) (λ t. simp t (go l.ground))
      where
        go : (g : Ground) → w l * flag (test (box_of g)) ≡ w l * flag (is_box test g)
        go (Area n) = ap (λ (b : Bool). w l * flag b) none
        go (Box b) = refl

    -- the boxes that are handed out and pass add what those of the licences in force do
    boxes-sum : {ps : List FlatLicence} {r : Boxes} → BoxesDone ps r → (ws : ℕ → ℕ)
        → ((i : ℕ) → i < r.count → ws i ≡ w (licence_of (get_or ps i free_place)))
        → sum_to (λ i. ws i * flag (test (box_from r.edges r.count i))) r.count ≡ total adds (in_force ps)
    boxes-sum {ps} {r} d ws e =
        sum_same (λ i. ws i * flag (test (box_from r.edges r.count i))) (λ i. at_place adds (licence_of (get_or ps i free_place)))
        (λ _. true) (λ _. true) r.count
        (λ i b. (λ t. e i b t * flag (test (d.edges.each i b t))) ∙ place-adds (licence_of (get_or ps i free_place)))
        ∙ sum-total (λ p. at_place adds (licence_of p)) free_place ps r.count
        (λ i b. none-adds (licence_of (get_or ps i free_place)) (d.counts.found.past i (omega (arith, d.counts.padded, b))))
        ∙ sym (in-force-total adds ps)

module _ (test : GeoBox → Bool) (none : test no_box ≡ false) {ps : List FlatLicence} {r : Boxes} (d : BoxesDone ps r) where
  -- as many boxes that are handed out pass as licences in force have one that does
  pub boxes-total : count (λ i. test (box_from r.edges r.count i)) r.count
      ≡ total (λ l. flag (is_box test l.ground)) (in_force ps)
  boxes-total =
      count-sum (λ i. test (box_from r.edges r.count i)) r.count
      ∙ boxes-sum test (λ _. 1) none d (λ _. 1) (λ i b. refl)
      ∙ total-same (λ l. one-mul (flag (is_box test l.ground))) (in_force ps)

  -- and the widths of the ones add up to those of the others
  pub boxes-widths : sum_to (λ i. get_or r.widths i 0 * flag (test (box_from r.edges r.count i))) r.count
      ≡ total (λ l. l.width * flag (is_box test l.ground)) (in_force ps)
  boxes-widths = boxes-sum test (λ l. l.width) none d (λ i. get_or r.widths i 0) d.widths.each
