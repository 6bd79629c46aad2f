-- The rounds are document 01's "While": each round changes a place, so as many rounds as places are enough, for areas of every form.
-- Where they end without equality the outer set is above the share. Assumes nothing.
use Prim.Native.Nat.{ℕ, zero, suc, ◌-◌, ◌*◌, ◌≤◌, ◌<◌}
use mathlib.Core.Path.{◌≡◌, refl}
use mathlib.Core.Bool.{Bool, true, false, not, ◌&&◌, or-true}
use native.Mathlib.Omega.{arith}
use native.Mathlib.Nat.{mul-le-mul_left, mul-zero}
use lib.Dec.{leb, ltb, eqb}
use borrow.Author.Tests.{leb-true, leb-false, ltb-false, eqb-false, lt-ltb, not-false, not-true}
use Rattle.lists.specs.Sums.{some_below, sum_below, count}
use Rattle.lists.proofs.Tests.{by-test, not-both, first_of, second-of}
use Rattle.lists.proofs.SumLaws.{count_most, count_less}
use Rattle.lists.proofs.BelowLaws.{none_below, first_below, sum-least, sum-none}
use Rattle.ring.specs.Ring.{Places, outside}
use Rattle.ring.proofs.RingLaws.{ring_in, shrinks, grows}
use Rattle.rounds.specs.Footprint.{PartArea, places, value, both, without, ring_of, step, in_share, goes_on, rounds, Leads, stays, goes}
use Rattle.rounds.specs.Footprint.{growing, last_set, overshoots, last_ring, outer}

-- the places that are left to join, or to leave
abbrev pub remaining : (grow : Bool) → Places → (n : ℕ) → ℕ
remaining true f n = n - count f n
remaining false f n = count f n

pub remaining-most : (grow : Bool) (f : Places) (n : ℕ) → remaining grow f n ≤ n
remaining-most true f n = omega arith
remaining-most false f n = count_most f n

module _ (a : PartArea) (share : ℕ) where
  -- a round that is made is within the share
  pub in-share : (grow : Bool) (f : Places) → goes_on a share grow f ≡ true
      → in_share grow (value a (step grow f (ring_of a grow f))) share ≡ true
  unfolding goes_on
  in-share grow f t = second-of (not (eqb (value a f) share)) (in_share grow (value a (step grow f (ring_of a grow f))) share) t

  module _ (above : 0 < share) (below : share < value a a.cells) (wide : 0 < a.columns) where
    -- growing, a cell is left outside the set, since all cells carry more than the share
    grow-falls : (f : Places) → goes_on a share true f ≡ true
        → places a - count (both f (ring_of a true f)) (places a) < places a - count f (places a)
    unfolding outside value
    grow-falls f t =
        let n = places a in
        let b = ring_of a true f in
        let k : value a (both f b) ≤ share = leb-true (value a (both f b)) share (in-share true f t) in
        let some : some_below (outside a.cells f n) n ≡ true = by-test (some_below (outside a.cells f n) n) (λ s. s)
        (λ s.
        let all : sum_below a.people a.cells n ≤ sum_below a.people (both f b) n = sum-least a.people a.cells (both f b) n
        (λ i h c.
        let q : (ltb i n && (a.cells i && not (f i))) ≡ false = none_below (outside a.cells f n) n s i h in
        let e : f i ≡ true = not-false (f i) (rw (lt-ltb i n h, c) at q) in rw e) in
        let more = mul-le-mul_left (100 * a.weight) all in
        absurd (omega arith)) in
        let r = first_below b n (grows a.cells f n a.columns some) in
        let less : count f n < count (both f b) n = count_less f (both f b) n r.at (λ i e. rw e) r.low
        (ring_in true a.cells f n a.columns r.at r.passes) (rw r.passes (or-true (f r.at))) in
        let most = count_most (both f b) n in
        omega arith

    -- shrinking, a place is left in the set, since nothing carries less than the share
    shrink-falls : (f : Places) → goes_on a share false f ≡ true → count (without f (ring_of a false f)) (places a) < count f (places a)
    unfolding value
    shrink-falls f t =
        let n = places a in
        let b = ring_of a false f in
        let k : share ≤ value a (without f b) = leb-true share (value a (without f b)) (in-share false f t) in
        let some : some_below f n ≡ true = by-test (some_below f n) (λ s. s)
        (λ s.
        let z : sum_below a.people (without f b) n ≡ 0 = sum-none a.people (without f b) n (λ i h. rw (none_below f n s i h)) in
        let v : 100 * a.weight * sum_below a.people (without f b) n ≡ 0 = rw z (mul-zero (100 * a.weight)) in
        absurd (omega arith)) in
        let r = first_below b n (shrinks a.cells f n a.columns wide some) in
        let in-set = ring_in false a.cells f n a.columns r.at r.passes in
        count_less (without f b) f n r.at (λ i e. first_of (f i) (not (b i)) e) r.low (rw (in-set, r.passes)) in-set

    -- each round that is made leaves less
    pub falls : (grow : Bool) (f : Places) → goes_on a share grow f ≡ true
        → remaining grow (step grow f (ring_of a grow f)) (places a) < remaining grow f (places a)
    falls true f t = grow-falls f t
    falls false f t = shrink-falls f t

    -- after as many rounds as are left no round is made
    ended_by : (grow : Bool) (k : ℕ) (f : Places) → remaining grow f (places a) ≤ k
        → goes_on a share grow (rounds a share grow k f) ≡ false
    unfolding rounds
    ended_by grow zero f h = by-test (goes_on a share grow f) (λ t. absurd (omega (arith, falls grow f t))) (λ t. t)
    ended_by grow (suc k) f h = by-test (goes_on a share grow f)
        (λ t. rw t (ended_by grow k (step grow f (ring_of a grow f)) (omega (arith, falls grow f t))))
        (λ t. rw t t)

    pub ended : (f : Places) → goes_on a share (growing a share f) (last_set a share f) ≡ false
    unfolding last_set
    ended f = ended_by (growing a share f) (places a) f (remaining-most (growing a share f) f (places a))

  -- rounds that end are the while
  leads-by : (grow : Bool) (k : ℕ) (f : Places) → goes_on a share grow (rounds a share grow k f) ≡ false
      → Leads a share grow f (rounds a share grow k f)
  unfolding rounds
  leads-by grow zero f h = stays f h
  leads-by grow (suc k) f h = by-test (goes_on a share grow f)
      (λ t.
      let next = step grow f (ring_of a grow f) in
      rw t (goes f (rounds a share grow k next) t (leads-by grow k next (rw t at h))))
      (λ t. rw t (stays f t))

  -- shrinking keeps at least the share
  shrunk-above : (k : ℕ) (f : Places) → share ≤ value a f → share ≤ value a (rounds a share false k f)
  unfolding rounds
  shrunk-above zero f h = h
  shrunk-above (suc k) f h = by-test (goes_on a share false f)
      (λ t.
      let next = without f (ring_of a false f) in
      rw t (shrunk-above k next (leb-true share (value a next) (in-share false f t))))
      (λ t. rw t h)

-- "While": F leads to the last set, with no count of rounds
pub leads : (a : PartArea) (share : ℕ) (f : Places) → 0 < share → share < value a a.cells → 0 < a.columns
    → Leads a share (growing a share f) f (last_set a share f)
unfolding last_set
leads a share f above below wide = leads-by a share (growing a share f) (places a) f last
  where
    last : goes_on a share (growing a share f) (rounds a share (growing a share f) (places a) f) ≡ false
    last = ended a share above below wide f

-- and to no other set
pub leads_one : (a : PartArea) (share : ℕ) (grow : Bool) (f g h : Places) → Leads a share grow f g → Leads a share grow f h → g ≡ h
leads_one a share grow f g h (stays _ p) (stays _ q) = refl
leads_one a share grow f g h (stays _ p) (goes _ _ q m) = not-both q p
leads_one a share grow f g h (goes _ _ p l) (stays _ q) = not-both p q
leads_one a share grow f g h (goes _ _ p l) (goes _ _ q m) = leads_one a share grow (step grow f (ring_of a grow f)) g h l m

-- "When that would overshoot": the outer set carries more than the share
module _ (a : PartArea) (share : ℕ) (f : Places) where
  -- growing, the next set is above the share
  grown-over : growing a share f ≡ true → overshoots a share f ≡ true → goes_on a share (growing a share f) (last_set a share f) ≡ false
      → leb (value a (both (last_set a share f) (ring_of a true (last_set a share f)))) share ≡ false
  unfolding goes_on overshoots
  grown-over g o e = rw (g, o) at e

  -- shrinking, the last set is not below the share
  shrunk-over : growing a share f ≡ false → share ≤ value a (last_set a share f)
  unfolding last_set growing
  shrunk-over g = rw g (shrunk-above a share (places a) f (ltb-false (value a f) share g))

  pub over : 0 < share → share < value a a.cells → 0 < a.columns → overshoots a share f ≡ true → share < value a (outer a share f)
  unfolding overshoots outer last_ring
  over above below wide o =
      let s = last_set a share f in
      by-test (growing a share f)
      (λ g. rw g (leb-false (value a (both s (ring_of a true s))) share (grown-over g o (ended a share above below wide f))))
      (λ g.
      let differs = eqb-false (value a s) share (not-true (eqb (value a s) share) o) in
      let h = shrunk-over g in
      rw g (omega arith))
