-- Footprint and entries needed go by the cells, the people and the set F at the places of the area alone. Assumes nothing.
use Prim.Native.Nat.{ℕ, zero, suc, ◌+◌, ◌-◌, ◌*◌, ◌/◌, ◌<◌}
use mathlib.Core.Path.{◌≡◌, ap, ◌∙◌, fun_ext}
use mathlib.Core.Bool.{Bool, true, false, cond, not, ◌&&◌, ◌||◌}
use mathlib.Core.List.{List, map, Memᴰ}
use native.Mathlib.Nat.{mul-mod_left}
use lib.Dec.{leb, ltb, eqb}
use lib.ListN.{length, replicate}
use Rattle.lists.specs.Sums.{sum_below}
use Rattle.lists.specs.Filters.{filter, up_to, among}
use Rattle.lists.proofs.BelowLaws.{sum_same}
use Rattle.lists.proofs.FilterLaws.{mem-filter, filter-below, up_to-below, map_same}
use Rattle.subset.specs.Sets.{sets, taken_of}
use Rattle.subset.specs.Rule.{smallest, greatest}
use Rattle.ring.specs.Ring.{Places, ring}
use Rattle.ring.proofs.RingLaws.{ring-same}
use Rattle.rounds.specs.Footprint.{PartArea, places, value, both, ring_of, step, in_share, goes_on, rounds, growing, last_set, overshoots}
use Rattle.rounds.specs.Footprint.{last_ring, outer, slack, ring_cells, remains, keeps, left_out, footprint, needed}

-- two areas of one form and weight, with the same cells and people at their places
pub record Alike (a b : PartArea) : Type 0 where
  pub rows : a.rows ≡ b.rows
  pub columns : a.columns ≡ b.columns
  pub weight : a.weight ≡ b.weight
  pub cells : (i : ℕ) → i < places a → a.cells i ≡ b.cells i
  pub people : (i : ℕ) → i < places a → a.people i ≡ b.people i

-- two sets agree at the places below n
abbrev pub Agree : (n : ℕ) → (f h : Places) → Type 0
Agree n f h = (i : ℕ) → i < n → f i ≡ h i

step-agree : (n : ℕ) (grow : Bool) (f h b d : Places) → Agree n f h → Agree n b d → Agree n (step grow f b) (step grow h d)
step-agree n true f h b d p q i l = λ k. p i l k || q i l k
step-agree n false f h b d p q i l = λ k. p i l k && not (q i l k)

-- of two sets each, a test takes ones that agree at a place
cond-agree : (g d : Bool) (x y u v : Places) (i : ℕ) → g ≡ d → x i ≡ u i → y i ≡ v i → cond g x y i ≡ cond d u v i
cond-agree g d x y u v i e p q = at g p q ∙ (λ k. cond (e k) u v i)
  where
    at : (t : Bool) → x i ≡ u i → y i ≡ v i → cond t x y i ≡ cond t u v i
    at true p q = p
    at false p q = q

module _ (a b : PartArea) (alike : Alike a b) (share : ℕ) where
  same-places : places a ≡ places b
  same-places = λ k. alike.rows k * alike.columns k

  -- V, the ring and a round's test

  pub same-value : (f h : Places) → Agree (places a) f h → value a f ≡ value b h
  unfolding value
  same-value f h p =
      (λ k. 100 * alike.weight k * sum_same a.people b.people f h (places a) (λ i l j. cond (p i l j) (alike.people i l j) 0) k)
      ∙ ap (λ (n : ℕ). 100 * b.weight * sum_below b.people h n) same-places

  pub same_whole : value a a.cells ≡ value b b.cells
  same_whole = same-value a.cells b.cells alike.cells

  same-ring : (grow : Bool) (f h : Places) → Agree (places a) f h → Agree (places a) (ring_of a grow f) (ring_of b grow h)
  same-ring grow f h p i l =
      ring-same grow a.cells b.cells f h (places a) a.columns p alike.cells (mul-mod_left a.rows a.columns) i l
      ∙ (λ k. ring grow b.cells h (same-places k) (alike.columns k) i)

  same_step : (grow : Bool) (f h : Places) → Agree (places a) f h
      → Agree (places a) (step grow f (ring_of a grow f)) (step grow h (ring_of b grow h))
  same_step grow f h p = step-agree (places a) grow f h (ring_of a grow f) (ring_of b grow h) p (same-ring grow f h p)

  same-goes : (grow : Bool) (f h : Places) → Agree (places a) f h → goes_on a share grow f ≡ goes_on b share grow h
  unfolding goes_on
  same-goes grow f h p = λ k.
      not (eqb (same-value f h p k) share)
      && in_share grow (same-value (step grow f (ring_of a grow f)) (step grow h (ring_of b grow h)) (same_step grow f h p) k) share

  same-rounds : (grow : Bool) (m : ℕ) (f h : Places) → Agree (places a) f h
      → Agree (places a) (rounds a share grow m f) (rounds b share grow m h)
  unfolding rounds
  same-rounds grow zero f h p i l = p i l
  same-rounds grow (suc m) f h p i l =
      cond-agree (goes_on a share grow f) (goes_on b share grow h)
      (rounds a share grow m (step grow f (ring_of a grow f))) f (rounds b share grow m (step grow h (ring_of b grow h))) h i
      (same-goes grow f h p)
      (same-rounds grow m (step grow f (ring_of a grow f)) (step grow h (ring_of b grow h)) (same_step grow f h p) i l)
      (p i l)

  module _ (f h : Places) (p : Agree (places a) f h) where
    same-growing : growing a share f ≡ growing b share h
    unfolding growing
    same-growing = λ k. ltb (same-value f h p k) share

    same-last : Agree (places a) (last_set a share f) (last_set b share h)
    unfolding last_set
    same-last i l =
        same-rounds (growing a share f) (places a) f h p i l ∙ (λ k. rounds b share (same-growing k) (same-places k) h i)

    pub same-overshoots : overshoots a share f ≡ overshoots b share h
    unfolding overshoots
    same-overshoots = λ k. not (eqb (same-value (last_set a share f) (last_set b share h) same-last k) share)

    same-last-ring : Agree (places a) (last_ring a share f) (last_ring b share h)
    unfolding last_ring
    same-last-ring i l =
        same-ring (growing a share f) (last_set a share f) (last_set b share h) same-last i l
        ∙ (λ k. ring_of b (same-growing k) (last_set b share h) i)

    same-outer : Agree (places a) (outer a share f) (outer b share h)
    unfolding outer
    same-outer i l =
        cond-agree (growing a share f) (growing b share h)
        (both (last_set a share f) (last_ring a share f)) (last_set a share f)
        (both (last_set b share h) (last_ring b share h)) (last_set b share h) i
        same-growing (λ k. same-last i l k || same-last-ring i l k) (same-last i l)

    same-slack : slack a share f ≡ slack b share h
    unfolding slack
    same-slack = λ k. (same-value (outer a share f) (outer b share h) same-outer k - share) / (100 * alike.weight k)

    -- the choice

    same-cells : ring_cells a share f ≡ ring_cells b share h
    unfolding ring_cells
    same-cells =
        filter-below (λ i. last_ring a share f i && ltb 0 (a.people i)) (λ i. last_ring b share h i && ltb 0 (b.people i)) (places a)
        (λ i l k. same-last-ring i l k && ltb 0 (alike.people i l k))
        ∙ ap (λ (n : ℕ). filter (λ i. last_ring b share h i && ltb 0 (b.people i)) (up_to n)) same-places

    cells-below : (i : ℕ) → Memᴰ i (ring_cells a share f) → i < places a
    unfolding ring_cells
    cells-below i m =
        up_to-below (places a) i (mem-filter (λ j. last_ring a share f j && ltb 0 (a.people j)) (up_to (places a)) i m).0

    same-people : map a.people (ring_cells a share f) ≡ map b.people (ring_cells b share h)
    same-people =
        map_same a.people b.people (ring_cells a share f) (λ i m. alike.people i (cells-below i m))
        ∙ ap (map b.people) same-cells

    same-remains : (set : List Bool) → Agree (places a) (remains a share f set) (remains b share h set)
    unfolding remains
    same-remains set i l = λ k. same-outer i l k && not (among i (taken_of (same-cells k) set))

    same-keeps : keeps a share f ≡ keeps b share h
    unfolding keeps
    same-keeps = fun_ext (λ set. λ k. leb share (same-value (remains a share f set) (remains b share h set) (same-remains set) k))

    same-left-out : left_out a share f ≡ left_out b share h
    unfolding left_out
    same-left-out = λ k. smallest (λ set. set) (replicate (length (same-cells k)) false)
        (greatest (same-people k) (filter (same-keeps k) (sets (length (same-cells k)))))

    pub same-needed : needed a share f ≡ needed b share h
    unfolding needed
    same-needed = λ k. cond (same-overshoots k) (same-slack k + 1) 0

    pub same-footprint : Agree (places a) (footprint a share f) (footprint b share h)
    unfolding footprint
    same-footprint i l =
        cond-agree (overshoots a share f) (overshoots b share h)
        (remains a share f (left_out a share f)) (last_set a share f) (remains b share h (left_out b share h)) (last_set b share h) i
        same-overshoots
        (same-remains (left_out a share f) i l ∙ ap (λ (set : List Bool). remains b share h set i) same-left-out)
        (same-last i l)
