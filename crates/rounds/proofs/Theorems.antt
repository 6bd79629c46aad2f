-- The footprint carries at least the share, exactly that without a last ring, and no choice from the last ring that keeps the share
-- carries less (`Right`). Assumes nothing.
use Prim.Native.Nat.{ℕ, ◌+◌, ◌-◌, ◌*◌, ◌/◌, ◌≤◌, ◌<◌}
use mathlib.Core.Path.{◌≡◌, refl, sym, ap, ◌∙◌}
use mathlib.Core.Bool.{Bool, true, false, cond, not, ◌&&◌, or-true}
use mathlib.Core.List.{List, map}
use native.Mathlib.Omega.{arith}
use native.Mathlib.Nat.{mul-le-mul_left, mul-add, mul_comm, le-div_iff_mul-le}
use lib.Dec.{leb, ltb, eqb}
use lib.ListN.{length, length-map}
use borrow.Author.Tests.{ltb-true, leb-true, eqb-true, le-leb, not-false}
use Rattle.lists.specs.Sums.{sum_below}
use Rattle.lists.specs.Filters.{up_to, among}
use Rattle.lists.proofs.Tests.{by-test, not-both, first_of, second-of, leb-same}
use Rattle.lists.proofs.BelowLaws.{sum-test, sum-split}
use Rattle.lists.proofs.FilterLaws.{mem-filter, filter_same, among-mem}
use Rattle.subset.specs.Sets.{sets, taken_of, total_of}
use Rattle.subset.specs.Rule.{within, the_subset, Chosen}
use Rattle.subset.proofs.SetLaws.{sets-length}
use Rattle.subset.proofs.RuleLaws.{the-subset-chosen}
use Rattle.ring.specs.Ring.{Places}
use Rattle.subset.proofs.MarkedLaws.{taken-some, total-taken}
use Rattle.ring.proofs.RingLaws.{ring_in}
use Rattle.rounds.specs.Footprint.{PartArea, places, value, without, growing, last_set, overshoots, last_ring, outer, slack, ring_cells}
use Rattle.rounds.specs.Footprint.{remains, keeps, left_out, footprint}
use Rattle.rounds.specs.Demand.{Right}
use Rattle.rounds.proofs.Rounds.{over}

-- ---- the slack

-- what is left and what is left out make up the outer set
pub rest_sum : (w : ℕ → ℕ) (o t : Places) (n : ℕ) → ((i : ℕ) → t i ≡ true → o i ≡ true)
    → sum_below w (without o t) n + sum_below w t n ≡ sum_below w o n
rest_sum w o t n s = sum-split w (without o t) t o n (λ i h. at (o i) (t i) (w i) (s i))
  where
    at : (b d : Bool) (x : ℕ) → (d ≡ true → b ≡ true) → cond (b && not d) x 0 + cond d x 0 ≡ cond b x 0
    at true true x h = omega arith
    at true false x h = omega arith
    at false true x h = not-both (h refl) refl
    at false false x h = refl

-- V of what is left is at least the share just where what is left out is within the slack, rounded down
within-slack : (unit share rest out all : ℕ) → 0 < unit → rest + out ≡ all → share ≤ unit * all
    → leb share (unit * rest) ≡ leb out ((unit * all - share) / unit)
within-slack unit share rest out all pos e h =
    let d : unit * all ≡ unit * rest + unit * out = rw (← e) (mul-add unit rest out) in
    let c : out * unit ≡ unit * out = mul_comm out unit in
    leb-same share (unit * rest) out ((unit * all - share) / unit)
    (λ l. (le-div_iff_mul-le pos).1 (omega arith))
    (λ l.
    let no : out ≤ (unit * all - share) / unit → ⊥ = λ q.
    let m : out * unit ≤ unit * all - share = (le-div_iff_mul-le pos).0 q in omega arith in
    omega arith)

module _ (a : PartArea) (share : ℕ) (f : Places) where
  -- the people of the last ring's cells, by row then column
  abbrev pub values : List ℕ
  values = map a.people (ring_cells a share f)

  -- the last ring is in the outer set
  ring-outer : (i : ℕ) → last_ring a share f i ≡ true → outer a share f i ≡ true
  unfolding last_ring outer
  ring-outer i h = by-test (growing a share f)
      (λ g. rw (g, rw g at h) (or-true (last_set a share f i)))
      (λ g. rw g (ring_in false a.cells (last_set a share f) (places a) a.columns i (rw g at h)))

  -- what a set leaves out are cells of the last ring with people
  taken-ring : (set : List Bool) (i : ℕ) → among i (taken_of (ring_cells a share f) set) ≡ true
      → (last_ring a share f i ≡ true) × (0 < a.people i)
  unfolding ring_cells
  taken-ring set i h =
      let r = (mem-filter (λ j. last_ring a share f j && ltb 0 (a.people j)) (up_to (places a)) i
      (among-mem (ring_cells a share f) i (taken-some i (ring_cells a share f) set h))).1 in (
        first_of (last_ring a share f i) (ltb 0 (a.people i)) r,
        ltb-true 0 (a.people i) (second-of (last_ring a share f i) (ltb 0 (a.people i)) r),
      )

  -- the people of what remains and of what is left out
  remains-sum : (set : List Bool) → length set ≡ length (ring_cells a share f)
      → sum_below a.people (remains a share f set) (places a) + total_of values set ≡ sum_below a.people (outer a share f) (places a)
  unfolding remains ring_cells
  remains-sum set n =
      rw (total-taken a.people (λ j. last_ring a share f j && ltb 0 (a.people j)) (places a) set n)
      (rest_sum a.people (outer a share f) (λ i. among i (taken_of (ring_cells a share f) set)) (places a)
      (λ i t. ring-outer i (taken-ring set i t).0))

  -- ---- without a last ring

  made-exactly : overshoots a share f ≡ false → value a (footprint a share f) ≡ share
  unfolding overshoots footprint
  made-exactly o = rw o (eqb-true (value a (last_set a share f)) share (not-false (eqb (value a (last_set a share f)) share) o))

  -- ---- with a last ring

  module _ (heavy : 0 < a.weight) (wide : 0 < a.columns) (above : 0 < share) (below : share < value a a.cells)
      (o : overshoots a share f ≡ true) where
    -- a choice keeps the share just where what it leaves out is within the slack
    keeps-within : (set : List Bool) → length set ≡ length (ring_cells a share f)
        → keeps a share f set ≡ leb (total_of values set) (slack a share f)
    unfolding keeps slack value
    keeps-within set n =
        let h : share < value a (outer a share f) = over a share f above below wide o in
        within-slack (100 * a.weight) share (sum_below a.people (remains a share f set) (places a)) (total_of values set)
        (sum_below a.people (outer a share f) (places a)) (omega arith) (remains-sum set n) (omega arith)

    -- what is left out is what the subset rule takes within the slack
    pub left-out-is : left_out a share f ≡ the_subset values (slack a share f)
    unfolding left_out the_subset within
    left-out-is =
        let same = filter_same (keeps a share f) (λ set. leb (total_of values set) (slack a share f)) (sets (length (ring_cells a share f)))
        (λ set m. keeps-within set (sets-length (length (ring_cells a share f)) set m)) in
        rw (length-map (ring_cells a share f) a.people, same)

    -- so it has the greatest total within the slack, and then the smallest set number
    pub rule : Chosen values (slack a share f) (left_out a share f)
    rule = rw left-out-is (the-subset-chosen values (slack a share f))

    each : length (left_out a share f) ≡ length (ring_cells a share f)
    each = rule.each ∙ length-map (ring_cells a share f) a.people

    -- the footprint is the choice that leaves these out
    made-chosen : footprint a share f ≡ remains a share f (left_out a share f)
    unfolding footprint
    made-chosen = rw o

    made_kept : share ≤ value a (footprint a share f)
    unfolding keeps
    made_kept =
        rw made-chosen (leb-true share (value a (remains a share f (left_out a share f)))
        (keeps-within (left_out a share f) each ∙ le-leb (total_of values (left_out a share f)) (slack a share f) rule.within))

    made-least : (set : List Bool) → length set ≡ length (ring_cells a share f) → keeps a share f set ≡ true
        → value a (footprint a share f) ≤ value a (remains a share f set)
    unfolding value
    made-least set n k =
        let fits = leb-true (total_of values set) (slack a share f) (sym (keeps-within set n) ∙ k) in
        let more = rule.greatest set (n ∙ sym (length-map (ring_cells a share f) a.people)) fits in
        let x = remains-sum set n in
        let y = remains-sum (left_out a share f) each in
        rw made-chosen (mul-le-mul_left (100 * a.weight) (omega arith))

    made-stays : (i : ℕ) → last_ring a share f i ≡ true → a.people i ≡ 0 → footprint a share f i ≡ true
    unfolding remains
    made-stays i r z =
        rw made-chosen (by-test (among i (taken_of (ring_cells a share f) (left_out a share f)))
        (λ t. let some = (taken-ring (left_out a share f) i t).1 in absurd (omega arith))
        (λ t. rw (ring-outer i r, t)))

-- ---- demand 3 of a footprint

pub right : (a : PartArea) (share : ℕ) → 0 < a.weight → 0 < a.columns → 0 < share → share < value a a.cells
    → (f : Places) → Right a share f (footprint a share f)
right a share heavy wide above below f = record {
  at_least = by-test (overshoots a share f)
      (λ o. made_kept a share f heavy wide above below o)
      (λ o. let e = made-exactly a share f o in omega arith);
  exactly = made-exactly a share f;
  chosen = λ o. (
    left_out a share f,
    (o, each a share f heavy wide above below o),
    λ i l. ap (λ (g : Places). g i) (made-chosen a share f heavy wide above below o),
  );
  none-less = λ set s k. made-least a share f heavy wide above below s.0 set s.1 k;
  stay-in = λ o i l r z. made-stays a share f heavy wide above below o i r z;
}

-- it carries over to a set that agrees with it at the places of the area
pub right-same : (a : PartArea) (share : ℕ) (f g h : Places) → ((i : ℕ) → i < places a → h i ≡ g i)
    → Right a share f g → Right a share f h
unfolding value
right-same a share f g h e r =
    let v : value a h ≡ value a g = ap (λ (s : ℕ). 100 * a.weight * s) (sum-test a.people h g (places a) e) in
    record {
      at_least = rw v r.at_least;
      exactly = λ o. v ∙ r.exactly o;
      chosen = λ o. let c = r.chosen o in (c.0, c.1, λ i l. e i l ∙ c.2 i l);
      none-less = λ set s k. rw v (r.none-less set s k);
      stay-in = λ o i l b z. e i l ∙ r.stay-in o i l b z;
    }
