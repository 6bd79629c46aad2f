-- Laws of a row under boxes. Assumes nothing.
use Prim.Native.Nat.{ℕ, zero, suc, ◌+◌, ◌*◌, ◌≤◌, ◌<◌}
use mathlib.Core.Path.{◌≡◌, refl, sym, ap, ◌∙◌}
use mathlib.Core.Bool.{Bool, true, false, not, ◌&&◌, ◌||◌}
use mathlib.Core.List.{List}
use native.Mathlib.Omega.{arith}
use native.Mathlib.Nat.{mul-add, mul_left_comm, mul-one, mul-zero}
use native.Mathlib.Numerals.{add-one}
use lib.Dec.{leb, eqb}
use mir.Val.{bool_byte}
use lib.IntN.{ℤ, pos, neg_ℤ, negsuc}
use lib.ListN.{get_or}
use lib.Signed.{le_z, lt_z}
use borrow.Author.Tests.{not-true, leb-true, eqb-true, eqb-false}
use Rattle.lists.specs.Sums.{flag, count, every_below, sum_below, sum_to}
use Rattle.lists.proofs.Tests.{by-test, both, first_of, second-of}
use Rattle.lists.proofs.BelowLaws.{every-below, every-both, sum-next, sum-add, sum_same, sum-most, sum_ones, sum-zero}
use Rattle.units.specs.Coordinates.{within_z, is_latitude, is_longitude}
use Rattle.std.proofs.Common.{max, length, take, sum, get_or-take, length-take-le}
use Rattle.std.proofs.lemmas.List.Sums.{sum_by_more}
use Rattle.std.specs.Int.{int_min, int_max}
use Rattle.boxes.specs.Rows.{row_fine, join_to, SpanOf, FewPeople, cell_under, test_at, UnderBox}
use Rattle.boxes.specs.declared.rows.Span.{Span}
use Rattle.boxes.specs.declared.rows.Under.{Under}
use Rattle.boxes.proofs.OrderLaws.{turned-z, lower-both, higher-both, higher-less, larger-both, join-test, join_same}

pub count_next : (test : ℕ → Bool) (i : ℕ) → count test i + flag (test i) ≡ count test (i + 1)
unfolding count
count_next test i = ap (count test) (sym (add-one i))

-- ---- what a span tells of each coordinate

module _ (values : List ℤ) (n : ℕ) (s : Span) (h : SpanOf values n s) where
  abbrev value : ℕ → ℤ
  value k = get_or values k (pos 0)

  least-test : (z : ℤ) → le_z z s.least ≡ le_z z (pos 2_147_483_647) && every_below (λ k. le_z z (value k)) n
  least-test z = ap (le_z z) h.least ∙ join-test int_min (pos 2_147_483_647) value (le_z z) (lower-both z) n

  greatest-test : (z : ℤ) → le_z s.greatest z ≡ le_z (negsuc 2_147_483_647) z && every_below (λ k. le_z (value k) z) n
  greatest-test z =
      ap (λ (y : ℤ). le_z y z) h.greatest ∙ join-test int_max (negsuc 2_147_483_647) value (λ y. le_z y z) (higher-both z) n

  greatest-less : (z : ℤ) → lt_z s.greatest z ≡ lt_z (negsuc 2_147_483_647) z && every_below (λ k. lt_z (value k) z) n
  greatest-less z =
      ap (λ (y : ℤ). lt_z y z) h.greatest ∙ join-test int_max (negsuc 2_147_483_647) value (λ y. lt_z y z) (higher-less z) n

  -- from the least on, and below what the greatest is below
  from-least : (z : ℤ) → le_z z s.least ≡ true → (k : ℕ) → k < n → le_z z (value k) ≡ true
  from-least z t =
      every-below (λ k. le_z z (value k)) n
      (second-of (le_z z (pos 2_147_483_647)) (every_below (λ k. le_z z (value k)) n) (sym (least-test z) ∙ t))

  past-greatest : (z : ℤ) → lt_z s.greatest z ≡ true → (k : ℕ) → k < n → lt_z (value k) z ≡ true
  past-greatest z t =
      every-below (λ k. lt_z (value k) z) n
      (second-of (lt_z (negsuc 2_147_483_647) z) (every_below (λ k. lt_z (value k) z) n) (sym (greatest-less z) ∙ t))

  -- between two edges
  between-all : (low high : ℤ) → le_z low s.least && lt_z s.greatest high ≡ true
      → (k : ℕ) → k < n → le_z low (value k) && lt_z (value k) high ≡ true
  between-all low high t k l =
      both (from-least low (first_of (le_z low s.least) (lt_z s.greatest high) t) k l)
      (past-greatest high (second-of (le_z low s.least) (lt_z s.greatest high) t) k l)

  -- the span is in a range exactly if every coordinate is
  span-within : (low high : ℤ) → le_z low (pos 2_147_483_647) ≡ true → le_z (negsuc 2_147_483_647) high ≡ true
      → le_z low s.least && le_z s.greatest high ≡ every_below (λ k. within_z low high (value k)) n
  span-within low high a b =
      (λ i. (least-test low ∙ ap (λ (t : Bool). t && every_below (λ k. le_z low (value k)) n) a) i
      && (greatest-test high ∙ ap (λ (t : Bool). t && every_below (λ k. le_z (value k) high) n) b) i)
      ∙ sym (every-both (λ k. le_z low (value k)) (λ k. le_z (value k) high) n)

-- the span of the first n of some coordinates
pub span_taken : (values : List ℤ) (n : ℕ) {s : Span} → n ≤ length values → SpanOf (take n values) (length (take n values)) s
    → SpanOf values n s
span_taken values n l h =
    let same : (k : ℕ) → k < n → get_or (take n values) k (pos 0) ≡ get_or values k (pos 0) = λ k b. get_or-take n values k (pos 0) b in
    let all = length-take-le n values l in
    record {
      least = rw all at h.least ∙ join_same int_min (pos 2_147_483_647) (λ k. get_or (take n values) k (pos 0)) (value values) n same;
      greatest = rw all at h.greatest
          ∙ join_same int_max (negsuc 2_147_483_647) (λ k. get_or (take n values) k (pos 0)) (value values) n same;
    }
  where
    value : List ℤ → ℕ → ℤ
    value xs k = get_or xs k (pos 0)

-- the most of the first n of some counts, and their sum
pub most_taken : (ps : List ℕ) (n : ℕ) {m : ℕ} → n ≤ length ps → m ≡ join_to max 0 (λ k. get_or (take n ps) k 0) (length (take n ps))
    → m ≡ join_to max 0 (λ k. get_or ps k 0) n
most_taken ps n l h =
    rw (length-take-le n ps l) at h
    ∙ join_same max 0 (λ k. get_or (take n ps) k 0) (λ k. get_or ps k 0) n (λ k b. get_or-take n ps k 0 b)

pub sum_taken : (ps : List ℕ) (n : ℕ) → n ≤ length ps → sum (take n ps) ≡ sum_to (λ k. get_or ps k 0) n
unfolding sum_below
sum_taken ps zero l = refl
sum_taken ps (suc n) l =
    ap (λ (m : ℕ). sum (take m ps)) (sym (add-one n)) ∙ sum_by_more (λ (p : ℕ). p) ps n 0 (omega arith)
    ∙ ap (λ (s : ℕ). s + get_or ps n 0) (sum_taken ps n (omega arith))

-- ---- a row within the map's limits

-- a cell within them
pub record CellWithin (p : ℕ) (x y : ℤ) : Type 0 where
  pub people : p ≤ 1_000_000
  pub latitude : is_latitude x ≡ true
  pub longitude : is_longitude y ≡ true

module _ (ps : List ℕ) (latitudes longitudes : List ℤ) (n : ℕ) where
  abbrev few_at : ℕ → Bool
  few_at k = leb (get_or ps k 0) 1_000_000

  abbrev latitude_at : ℕ → Bool
  latitude_at k = is_latitude (get_or latitudes k (pos 0))

  abbrev longitude_at : ℕ → Bool
  longitude_at k = is_longitude (get_or longitudes k (pos 0))

  -- the most people and the spans tell whether every cell is
  pub row_fine-spans : (m : ℕ) (la lo : Span) → m ≡ join_to max 0 (λ k. get_or ps k 0) n → SpanOf latitudes n la → SpanOf longitudes n lo
      → leb m 1_000_000 && (le_z (neg_ℤ (pos 32_400_000)) la.least && le_z la.greatest (pos 32_400_000))
      && (le_z (neg_ℤ (pos 64_800_000)) lo.least && le_z lo.greatest (pos 64_800_000))
      ≡ row_fine ps latitudes longitudes n
  row_fine-spans m la lo e a b =
      (λ i. (ap (λ (p : ℕ). leb p 1_000_000) e
      ∙ join-test max 0 (λ k. get_or ps k 0) (λ p. leb p 1_000_000) (larger-both 1_000_000) n) i
      && span-within latitudes n la a (neg_ℤ (pos 32_400_000)) (pos 32_400_000) refl refl i
      && span-within longitudes n lo b (neg_ℤ (pos 64_800_000)) (pos 64_800_000) refl refl i)
      ∙ ap (λ (t : Bool). t && every_below longitude_at n) (sym (every-both few_at latitude_at n))
      ∙ sym (every-both (λ k. few_at k && latitude_at k) longitude_at n)

  -- every cell of such a row
  pub fine-within : row_fine ps latitudes longitudes n ≡ true → (k : ℕ) → k < n
      → CellWithin (get_or ps k 0) (get_or latitudes k (pos 0)) (get_or longitudes k (pos 0))
  fine-within t k l =
      let one = every-below (λ j. few_at j && latitude_at j && longitude_at j) n t k l in
      let two = first_of (few_at k && latitude_at k) (longitude_at k) one in
      record {
        people = leb-true (get_or ps k 0) 1_000_000 (first_of (few_at k) (latitude_at k) two);
        latitude = second-of (few_at k) (latitude_at k) two;
        longitude = second-of (few_at k && latitude_at k) (longitude_at k) one;
      }

  pub fine-few : row_fine ps latitudes longitudes n ≡ true → n ≤ 256 → FewPeople ps n
  fine-few t l = record { few = l; each = λ k b. (fine-within t k b).people }

  -- so the people of such a row are few
  pub few-sum : FewPeople ps n → sum_to (λ k. get_or ps k 0) n ≤ 256_000_000
  few-sum f = let few = f.few in omega (arith, sum-most (λ k. get_or ps k 0) (λ _. true) 1_000_000 n f.each)

-- ---- a box apart from a row, one that spans it from south to north, and one around it

-- of four tests one fails
apart-four : (a b c d p q r s : Bool) → (a ≡ true → p ≡ false) → (b ≡ true → q ≡ false) → (c ≡ true → r ≡ false)
    → (d ≡ true → s ≡ false) → a || b || c || d ≡ true → p && q && r && s ≡ false
apart-four a b c d false q r s f g h k t = refl
apart-four a b c d true false r s f g h k t = refl
apart-four a b c d true true false s f g h k t = refl
apart-four a b c d true true true false f g h k t = refl
apart-four true b c d true true true true f g h k t = f refl
apart-four false true c d true true true true f g h k t = g refl
apart-four false false true d true true true true f g h k t = h refl
apart-four false false false true true true true true f g h k t = k refl
apart-four false false false false true true true true f g h k t = sym t

-- the test of a box that spans a row from south to north
abbrev pub between : (west east x y : ℤ) → Bool
between west east x y = le_z west y && lt_z y east

module _ (latitudes longitudes : List ℤ) (n : ℕ) (la lo : Span) (a : SpanOf latitudes n la) (b : SpanOf longitudes n lo)
    (south north west east : ℤ) where
  abbrev under : ℕ → Bool
  under = cell_under south north west east latitudes longitudes

  pub apart_none : lt_z la.greatest south || le_z north la.least || lt_z lo.greatest west || le_z east lo.least ≡ true
      → (k : ℕ) → k < n → under k ≡ false
  apart_none t k l =
      let x = get_or latitudes k (pos 0) in
      let y = get_or longitudes k (pos 0) in
      apart-four (lt_z la.greatest south) (le_z north la.least) (lt_z lo.greatest west) (le_z east lo.least)
      (le_z south x) (lt_z x north) (le_z west y) (lt_z y east)
      (λ e. turned-z x south ∙ ap not (past-greatest latitudes n la a south e k l))
      (λ e. not-true (lt_z x north) (sym (turned-z x north) ∙ from-least latitudes n la a north e k l))
      (λ e. turned-z y west ∙ ap not (past-greatest longitudes n lo b west e k l))
      (λ e. not-true (lt_z y east) (sym (turned-z y east) ∙ from-least longitudes n lo b east e k l)) t

  -- where it spans the row from south to north, the longitudes decide
  pub columns-decide : le_z south la.least && lt_z la.greatest north ≡ true
      → (k : ℕ) → k < n → test_at (between west east) latitudes longitudes k ≡ under k
  columns-decide t k l =
      let y = get_or longitudes k (pos 0) in
      sym (ap (λ (b : Bool). b && le_z west y && lt_z y east) (between-all latitudes n la a south north t k l))

  pub around-all : le_z south la.least && lt_z la.greatest north ≡ true → le_z west lo.least && lt_z lo.greatest east ≡ true
      → (k : ℕ) → k < n → under k ≡ true
  around-all t u k l = sym (columns-decide t k l) ∙ between-all longitudes n lo b west east u k l

-- ---- sums under boxes

-- the people of cell k
abbrev held : List ℕ → ℕ → ℕ
held ps k = get_or ps k 0

-- what a test gives as a number
pub byte_flag : (b : Bool) → bool_byte b ≡ flag b
byte_flag true = refl
byte_flag false = refl

pub byte_most : {n : ℕ} (b : Bool) → n ≡ bool_byte b → n ≤ 1
byte_most true h = omega (arith, h)
byte_most false h = omega (arith, h)

-- the people and the cells that pass a test are summed, of the cells before cell k
pub record UnderTo (ps : List ℕ) (test : ℕ → Bool) (k people cells : ℕ) : Type 0 where
  pub people-to : people ≡ sum_to (λ j. held ps j * flag (test j)) k
  pub cells-to : cells ≡ sum_to (λ j. flag (test j)) k

module _ {ps : List ℕ} {test : ℕ → Bool} where
  pub to_start : UnderTo ps test 0 0 0
  unfolding sum_below
  to_start = record { people-to = refl; cells-to = refl }

  -- one cell more
  pub to-next : {k people cells here : ℕ} → UnderTo ps test k people cells → here ≡ flag (test k)
      → UnderTo ps test (k + 1) (people + held ps k * here) (cells + here)
  to-next {k} h e = record {
    people-to = (λ i. h.people-to i + held ps k * e i) ∙ sum-next (λ j. held ps j * flag (test j)) k;
    cells-to = (λ i. h.cells-to i + e i) ∙ sum-next (λ j. flag (test j)) k;
  }

  -- all cells
  pub to_end : {n people cells : ℕ} → UnderTo ps test n people cells → people ≤ 1_000_000 * n → cells ≤ n → n ≤ 256
      → UnderBox ps test n (record { people = people; cells = cells })
  to_end h p c l = record {
    people = h.people-to;
    cells = h.cells-to;
    few-people = omega arith;
    few-cells = omega arith;
  }

module _ {ps : List ℕ} {n : ℕ} {test : ℕ → Bool} where
  -- two tests that every cell passes or fails alike
  pub under_same : {other : ℕ → Bool} {u : Under} → ((k : ℕ) → k < n → test k ≡ other k) → UnderBox ps test n u → UnderBox ps other n u
  under_same {other} s h = record {
    people = h.people ∙ sum_same (λ k. held ps k * flag (test k)) (λ k. held ps k * flag (other k)) (λ _. true) (λ _. true) n
        (λ k l i. held ps k * flag (s k l i));
    cells = h.cells ∙ sum_same (λ k. flag (test k)) (λ k. flag (other k)) (λ _. true) (λ _. true) n (λ k l i. flag (s k l i));
    few-people = h.few-people;
    few-cells = h.few-cells;
  }

  pub under_none : ((k : ℕ) → k < n → test k ≡ false) → UnderBox ps test n (record { people = 0; cells = 0 })
  under_none h = record {
    people = sym (sum-zero (λ k. held ps k * flag (test k)) n (λ k l. rw (h k l, mul-zero)));
    cells = sym (sum-zero (λ k. flag (test k)) n (λ k l. ap flag (h k l)));
    few-people = omega arith;
    few-cells = omega arith;
  }

  pub under_all : {all : ℕ} → FewPeople ps n → all ≡ sum_to (held ps) n → ((k : ℕ) → k < n → test k ≡ true)
      → UnderBox ps test n (record { people = all; cells = n })
  under_all f e h = record {
    people = e ∙ sum_same (held ps) (λ k. held ps k * flag (test k)) (λ _. true) (λ _. true) n (λ k l. rw (h k l, mul-one));
    cells = sym (sum_same (λ k. flag (test k)) (λ _. 1) (λ _. true) (λ _. true) n (λ k l. ap flag (h k l)) ∙ sum_ones n);
    few-people = let few = f.few in omega (arith, e, sum-most (held ps) (λ _. true) 1_000_000 n f.each);
    few-cells = f.few;
  }

-- a number times a sum
sum-times : (m : ℕ) (f : ℕ → ℕ) (n : ℕ) → m * sum_to f n ≡ sum_to (λ k. m * f k) n
unfolding sum_below
sum-times m f zero = mul-zero m
sum-times m f (suc n) = mul-add m (sum_to f n) (f n) ∙ ap (λ (s : ℕ). s + m * f n) (sum-times m f n)

-- the widths of the boxes before box i that pass a test, added
abbrev pub width_to : (widths : List ℕ) (test : ℕ → Bool) (i : ℕ) → ℕ
width_to widths test = sum_to (λ j. get_or widths j 0 * flag (test j))

-- a bound on one number more
pub most-next : (f : ℕ → ℕ) (m i : ℕ) → ((j : ℕ) → j < i → f j ≤ m) → f i ≤ m → (j : ℕ) → j < i + 1 → f j ≤ m
most-next f m i h l j b =
    by-test (eqb j i) (λ t. rw (eqb-true j i t) l) (λ t. let n = eqb-false j i t in h j (omega arith))

-- no box yet
pub under-start : (widths ps : List ℕ) (n : ℕ) (tests : ℕ → ℕ → Bool)
    → (0 ≡ sum_to (λ k. held ps k * width_to widths (tests k) 0) n) × (0 ≡ sum_to (λ k. count (tests k) 0) n)
unfolding count sum_below
under-start widths ps n tests = (
  sym (sum-zero (λ k. held ps k * 0) n (λ k _. mul-zero (held ps k))),
  sym (sum-zero (λ _. 0) n (λ _ _. refl)),
)

-- one box more
pub under_next : (widths ps : List ℕ) (n i : ℕ) (tests : ℕ → ℕ → Bool) (u : Under) → UnderBox ps (λ k. tests k i) n u
    → (sum_to (λ k. held ps k * width_to widths (tests k) i) n + get_or widths i 0 * u.people
    ≡ sum_to (λ k. held ps k * width_to widths (tests k) (i + 1)) n)
    × (sum_to (λ k. count (tests k) i) n + u.cells ≡ sum_to (λ k. count (tests k) (i + 1)) n)
under_next widths ps n i tests u h =
    let width = get_or widths i 0 in
    let here : ℕ → ℕ = λ k. held ps k * flag (tests k i) in (
      ap (λ (m : ℕ). sum_to (λ k. held ps k * width_to widths (tests k) i) n + m)
          (ap (λ (m : ℕ). width * m) h.people ∙ sum-times width here n)
          ∙ sum-add (λ k. held ps k * width_to widths (tests k) i) (λ k. width * here k)
          (λ k. held ps k * width_to widths (tests k) (i + 1)) n (λ k _. box-more (held ps k) (tests k)),
      ap (λ (m : ℕ). sum_to (λ k. count (tests k) i) n + m) h.cells
          ∙ sum-add (λ k. count (tests k) i) (λ k. flag (tests k i)) (λ k. count (tests k) (i + 1)) n (λ k _. count_next (tests k) i),
    )
  where
    box-more : (p : ℕ) (test : ℕ → Bool)
        → p * width_to widths test i + get_or widths i 0 * (p * flag (test i)) ≡ p * width_to widths test (i + 1)
    box-more p test =
        ap (λ (m : ℕ). p * width_to widths test i + m) (mul_left_comm (get_or widths i 0) p (flag (test i)))
        ∙ sym (mul-add p (width_to widths test i) (get_or widths i 0 * flag (test i)))
        ∙ ap (λ (m : ℕ). p * m) (sum-next (λ j. get_or widths j 0 * flag (test j)) i)
