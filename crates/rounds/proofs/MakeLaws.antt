-- From the mask with the last ring marked to the footprint, or 8. Assumes nothing.
use Prim.Native.Nat.{ℕ, zero, suc, ◌+◌, ◌-◌, ◌*◌, ◌/◌, ◌≤◌, ◌<◌, zero-le}
use mathlib.Core.Path.{◌≡◌, refl, sym, ap, ◌∙◌}
use mathlib.Core.Bool.{Bool, true, false, cond, not, ◌&&◌, ◌||◌, and-false}
use mathlib.Core.List.{List, map}
use native.Mathlib.Omega.{arith}
use lib.Dec.{ltb, eqb}
use lib.ListN.{length, get_or}
use borrow.Author.Tests.{ltb-true, ltb-false, lt-ltb, le-ltb}
use Rattle.lists.specs.Sums.{flag}
use Rattle.lists.specs.Filters.{among}
use Rattle.lists.proofs.Tests.{by-test, not-both}
use Rattle.lists.proofs.FilterLaws.{filter-below, among-mem}
use Rattle.subset.specs.Sets.{taken_of}
use Rattle.subset.specs.Rule.{the_subset}
use Rattle.subset.specs.Marked.{people_at, candidates, left_out, roomy, LeavesOut}
use Rattle.subset.proofs.MarkedLaws.{candidate-low, taken-some}
use Rattle.ring.specs.Ring.{Places, shown, settled, wiped}
use Rattle.ring.proofs.RingLaws.{fits_in, ring_in}
use Rattle.rounds.specs.Footprint as area
use Rattle.rounds.specs.Footprint.{PartArea, places, value, ring_of, growing, last_set, overshoots, last_ring, outer, slack, ring_cells}
use Rattle.rounds.specs.Footprint.{remains, footprint, needed}
use Rattle.rounds.specs.Promises.{area_of, Answer, Made}
use Rattle.rounds.specs.Code.{Within, last_byte, RoundsDone, rest_byte, Finished}
use Rattle.rounds.specs.declared.MakeRefusal.TheVariants.{TableShort}
use Rattle.std.specs.Prelude.{Some, None, Ok, Err}
use Rattle.units.specs.declared.People.{People}
use Rattle.rounds.proofs.Rounds.{over}
use Rattle.rounds.proofs.Theorems.{left-out-is}
use Rattle.rounds.proofs.LimitLaws.{people-most}

-- ---- the end of the choice

-- no place past the first n is left out
left-out-below : (mask people : List ℕ) (n slack i : ℕ) → n ≤ i → among i (left_out mask people n slack) ≡ false
unfolding left_out
left-out-below mask people n slack i h =
    let cells = candidates mask people n in
    by-test (among i (left_out mask people n slack))
    (λ t. absurd (omega (
      arith,
      candidate-low mask people n i (among-mem cells i (taken-some i cells (the_subset (map (people_at people) cells) slack) t)),
    )))
    (λ t. t)

module _ (people : List ℕ) (n slack : ℕ) (mask after table entries : List ℕ) where
  -- "8": the area's bytes are 0
  pub finish-short : length table < slack + 1 → ((i : ℕ) → get_or after i 0 ≡ wiped n i (get_or mask i 0)) → entries ≡ table
      → Finished people n slack (Err (TableShort (slack + 1))) mask after table entries
  unfolding rest_byte
  finish-short h b e =
      let q = lt-ltb (length table) (slack + 1) h in
      record {
        answer = rw q;
        bytes = λ i. rw q (b i);
        unused = λ s l. rw e;
      }

  -- the cells that are left out are 0, and the other marks are settled
  pub finish-done : slack + 1 ≤ length table → ((i : ℕ) → i < n → get_or mask i 0 ≤ 2) → (mid : List ℕ)
      → LeavesOut people n slack mask mid table entries → roomy (length mask) (length people) n slack (length table) ≡ true
      → ((i : ℕ) → get_or after i 0 ≡ settled 1 n i (get_or mid i 0)) → Finished people n slack (Ok tt) mask after table entries
  unfolding rest_byte
  finish-done h small mid c room s =
      let q = le-ltb (length table) (slack + 1) h in
      record {
        answer = rw q;
        bytes = λ i. rw q (s i ∙ ap (settled 1 n i) (c.bytes i) ∙ rw room (by-test (ltb i n)
            (λ t. rw t (at (among i (left_out mask people n slack)) (get_or mask i 0) (small i (ltb-true i n t))))
            (λ t. rw (t, left-out-below mask people n slack i (ltb-false i n t)))));
        unused = λ k l. c.unused k (λ r. let m = l q in omega arith);
      }
    where
      at : (out : Bool) (v : ℕ) → v ≤ 2 → cond (eqb (cond out 0 v) 2) 1 (cond out 0 v) ≡ flag (not (eqb v 0) && not out)
      at true v l = sym (ap flag (and-false (not (eqb v 0))))
      at false zero l = refl
      at false (suc zero) l = refl
      at false (suc (suc zero)) l = refl
      at false (suc (suc (suc v))) l = absurd (omega arith)

-- ---- the footprint

module _ {rows columns weight share : ℕ} {mask cells people : List ℕ} (w : Within rows columns weight share mask cells people) where
  abbrev a : PartArea
  a = area_of rows columns weight cells people

  abbrev f : Places
  f = shown mask

  -- without a last ring the last set is the footprint
  pub made-exact : {mid : List ℕ} → RoundsDone a share None mask mid → (table : List ℕ) → Made a share f (Ok tt) mask mid table table
  unfolding needed footprint last_byte
  made-exact {mid} done table =
      let o : overshoots a share f ≡ false = sym done.last in
      let q = le-ltb (length table) 0 zero-le in
      record {
        answer = rw (o, q);
        bytes = λ i. done.bytes i ∙ rw (o, q);
        unused = λ s h. refl;
      }

  module _ {mid : List ℕ} {last : People} (done : RoundsDone a share (Some last) mask mid) where
    overshot : overshoots a share f ≡ true
    overshot = sym done.last

    -- a byte of the area
    byte : (i : ℕ) → i < places a → get_or mid i 0 ≡ cond (last_ring a share f i) 2 (flag (last_set a share f i))
    unfolding last_byte
    byte i h = done.bytes i ∙ rw (lt-ltb i (places a) h, overshot)

    pub last-small : (i : ℕ) → i < places a → get_or mid i 0 ≤ 2
    last-small i h = rw (byte i h) (at (last_ring a share f i) (last_set a share f i))
      where
        at : (b t : Bool) → cond b 2 (flag t) ≤ 2
        at true t = omega arith
        at false true = omega arith
        at false false = omega arith

    -- the bytes that stand are the outer set
    stand-outer : (i : ℕ) → i < places a → not (eqb (get_or mid i 0) 0) ≡ outer a share f i
    unfolding outer last_ring
    stand-outer i h = rw (byte i h) (by-test (growing a share f)
        (λ g. rw g (grows (last_set a share f i) (ring_of a true (last_set a share f) i)))
        (λ g. rw g (shrinks (last_set a share f i) (ring_of a false (last_set a share f) i)
        (ring_in false a.cells (last_set a share f) (places a) a.columns i))))
      where
        grows : (t b : Bool) → not (eqb (cond b 2 (flag t)) 0) ≡ (t || b)
        grows true true = refl
        grows true false = refl
        grows false true = refl
        grows false false = refl

        shrinks : (t b : Bool) → (b ≡ true → t ≡ true) → not (eqb (cond b 2 (flag t)) 0) ≡ t
        shrinks true true h = refl
        shrinks true false h = refl
        shrinks false true h = not-both (h refl) refl
        shrinks false false h = refl

    -- the marks are the last ring
    marks-ring : (i : ℕ) → i < places a → eqb (get_or mid i 0) 2 ≡ last_ring a share f i
    marks-ring i h = rw (byte i h) (at (last_ring a share f i) (last_set a share f i))
      where
        at : (b t : Bool) → eqb (cond b 2 (flag t)) 2 ≡ b
        at true t = refl
        at false true = refl
        at false false = refl

    cells_are : candidates mid people (places a) ≡ ring_cells a share f
    unfolding candidates ring_cells
    cells_are = filter-below
        (λ i. eqb (get_or mid i 0) 2 && ltb 0 (people_at people i)) (λ i. last_ring a share f i && ltb 0 (people_at people i)) (places a)
        (λ i h k. marks-ring i h k && ltb 0 (people_at people i))

    pub last-most : last.0 ≤ 65535 * 1_000_000
    last-most = rw (done.people overshot) (people-most w.limits (outer a share f))

    pub last-over : share ≤ 100 * weight * last.0
    unfolding value
    last-over =
        let h : share < value a (outer a share f) =
        over a share f w.limits.above w.limits.below (fits_in rows columns (length mask) w.masked).some overshot in
        rw (done.people overshot) (omega arith)

    pub slack-is : (100 * weight * last.0 - share) / (100 * weight) ≡ slack a share f
    unfolding slack value
    slack-is = rw (done.people overshot)

    -- what the table's rule leaves out is what the footprint leaves out
    out-is : left_out mid people (places a) (slack a share f) ≡ taken_of (ring_cells a share f) (area.left_out a share f)
    unfolding left_out
    out-is =
        let some = (fits_in rows columns (length mask) w.masked).some in
        rw (cells_are, left-out-is a share f w.limits.heavy some w.limits.above w.limits.below overshot)

    pub made-last : (answer : Answer) (after table entries : List ℕ)
        → Finished people (places a) (slack a share f) answer mid after table entries → Made a share f answer mask after table entries
    unfolding needed footprint remains rest_byte
    made-last answer after table entries c = record {
      answer = rw overshot c.answer;
      bytes = λ i. c.bytes i ∙ by-test (ltb i (places a))
          (λ t.
          let h = ltb-true i (places a) t in
          rw (t, overshot, stand-outer i h, out-is))
          (λ t. rw t (done.bytes i ∙ rw t));
      unused = λ s h. c.unused s (rw overshot at h);
    }
