-- The set that the table gives is the one that the subset rule takes. Assumes nothing.
use Prim.Native.Nat.{ℕ, zero, suc, ◌+◌, ◌-◌, ◌^◌, ◌≤◌, ◌<◌}
use mathlib.Core.Path.{◌≡◌, refl, sym, ap, subst, ◌∙◌}
use mathlib.Core.Bool.{Bool, true, false, cond, ◌&&◌, and-false}
use mathlib.Core.List.{List, [], ◌∷◌, ◌++◌, map, map-append, append-nil}
use native.Mathlib.Omega.{arith}
use lib.Dec.{ltb, eqb}
use lib.ListN.{length, get_or, length-map}
use borrow.Author.Tests.{ltb-false, ltb-true}
use Rattle.lists.specs.Sums.{sum_below}
use Rattle.lists.specs.Filters.{filter, up_to, among}
use Rattle.lists.proofs.Tests.{by-test, not-both, same_test}
use Rattle.lists.proofs.FilterLaws.{mem-filter, filter-mem, filter-next, in-up_to, up_to-below, map_same, among-mem, mem-among}
use Rattle.lists.proofs.BelowLaws.{sum_same, sum-filter}
use Rattle.subset.specs.Sets.{set_number, total_of, taken_of}
use Rattle.subset.specs.Rule.{the_subset, Chosen}
use Rattle.subset.specs.Marked.{people_at, candidates, left_out, roomy, LeavesOut}
use Rattle.subset.specs.Table.{weight, reach, member, greatest_of, chosen, Struck}
use Rattle.subset.proofs.SetLaws.{number-below, number-last, total-marks, taken-marks}
use Rattle.subset.proofs.RuleLaws.{chosen-only}
use Rattle.subset.proofs.MarkedLaws.{marks-taken, distinct-below}
use Rattle.subset.proofs.ReachLaws.{reach-complete, reach-new, new-pays, greatest-within, greatest-reach, greatest-most}
use Rattle.subset.proofs.ReachLaws.{member-old, member_below, member-top, member-top-old, member-out, member-total, member-pays}

-- the marks that a test of places gives the cells below k, which pass p
abbrev marks : (p f : ℕ → Bool) → (k : ℕ) → List Bool
marks p f k = map f (filter p (up_to k))

-- ---- set numbers by place

module _ (p : ℕ → Bool) where
  number-next : (f : ℕ → Bool) (k : ℕ)
      → set_number (marks p f (suc k)) ≡ set_number (marks p f k) + cond (p k && f k) (2 ^ length (filter p (up_to k))) 0
  number-next f k =
      ap (λ (l : List ℕ). set_number (map f l)) (filter-next p k)
      ∙ ap set_number (map-append f (filter p (up_to k)) (cond (p k) (k ∷ []) []))
      ∙ go (p k)
    where
      go : (b : Bool) → set_number (marks p f k ++ map f (cond b (k ∷ []) []))
          ≡ set_number (marks p f k) + cond (b && f k) (2 ^ length (filter p (up_to k))) 0
      go true =
          number-last (marks p f k) (f k)
          ∙ ap (λ (n : ℕ). set_number (marks p f k) + cond (f k) (2 ^ n) 0) (length-map (filter p (up_to k)) f)
      go false = rw append-nil (omega arith)

  -- a number goes by the test below k
  number_same : (f g : ℕ → Bool) (k : ℕ) → ((i : ℕ) → i < k → f i ≡ g i) → set_number (marks p f k) ≡ set_number (marks p g k)
  number_same f g k h =
      ap set_number (map_same f g (filter p (up_to k)) (λ i m. h i (up_to-below k i (mem-filter p (up_to k) i m).0)))

  number-low : (f : ℕ → Bool) (k : ℕ) → set_number (marks p f k) < 2 ^ length (filter p (up_to k))
  number-low f k = rw (← length-map (filter p (up_to k)) f) (number-below (marks p f k))

-- ---- the members have the smallest set number, where every place with people is a cell

module _ (p : ℕ → Bool) (w : ℕ → ℕ) (counts : (i : ℕ) → 0 < w i → p i ≡ true) where
  -- a place that is no cell, or is not in the set, adds nothing
  idle : (g : ℕ → Bool) (k s : ℕ) → sum_below w g (suc k) ≡ s → (p k && g k) ≡ false → sum_below w g k ≡ s
  unfolding sum_below
  idle g k s e q = by-test (g k)
      (λ t. by-test (p k)
      (λ v. not-both {b = true} refl (rw (v, t) at q))
      (λ v.
      let none : 0 < w k → ⊥ = λ h. not-both (counts k h) v in
      let u : sum_below w g k + w k ≡ s = rw t at e in
      omega arith))
      (λ t. let u : sum_below w g k + 0 ≡ s = rw t at e in omega arith)

  -- a sum that was reached before keeps its set, without the new place
  least-old : (k s : ℕ) (g : ℕ → Bool) → sum_below w g (suc k) ≡ s → reach w k s ≡ true
      → (sum_below w g k ≡ s → set_number (marks p (member w k s) k) ≤ set_number (marks p g k))
      → set_number (marks p (member w (suc k) s) (suc k)) ≤ set_number (marks p g (suc k))
  least-old k s g e t before =
      let next = number-next p g k in
      let same = number_same p (member w (suc k) s) (member w k s) k (λ i l. member-old w k s i t) in
      let low = number-low p (member w k s) k in
      let out : (p k && member w (suc k) s k) ≡ false = rw (member-top-old w k s t) (and-false (p k)) in
      let mine : set_number (marks p (member w (suc k) s) (suc k)) ≡ set_number (marks p (member w k s) k) + 0
      = number-next p (member w (suc k) s) k ∙ rw (out, same) in
      by-test (p k && g k)
      (λ q.
      let more : set_number (marks p g (suc k)) ≡ set_number (marks p g k) + 2 ^ length (filter p (up_to k)) = rw q at next in
      omega arith)
      (λ q.
      let ih = before (idle g k s e q) in
      let more : set_number (marks p g (suc k)) ≡ set_number (marks p g k) + 0 = rw q at next in
      omega arith)

  -- a sum that is new needs the new place, in every set
  least-new : (k s : ℕ) (g : ℕ → Bool) → reach w (suc k) s ≡ true → sum_below w g (suc k) ≡ s → reach w k s ≡ false
      → (sum_below w g k ≡ s - w k → set_number (marks p (member w k (s - w k)) k) ≤ set_number (marks p g k))
      → set_number (marks p (member w (suc k) s) (suc k)) ≤ set_number (marks p g (suc k))
  unfolding sum_below
  least-new k s g h e t before =
      let cell = counts k (new-pays w k s h t) in
      let same = number_same p (member w (suc k) s) (member w k (s - w k)) k (λ i l. member_below w k s i t l) in
      let top : ℕ = 2 ^ length (filter p (up_to k)) in
      let mine : set_number (marks p (member w (suc k) s) (suc k)) ≡ set_number (marks p (member w k (s - w k)) k) + top
      = number-next p (member w (suc k) s) k ∙ rw (cell, member-top w k s t, same) in
      by-test (g k)
      (λ q.
      let u : sum_below w g k + w k ≡ s = rw q at e in
      let ih = before (omega arith) in
      let more : set_number (marks p g (suc k)) ≡ set_number (marks p g k) + top = number-next p g k ∙ rw (cell, q) in
      omega arith)
      (λ q.
      let u : sum_below w g k + 0 ≡ s = rw q at e in
      let z : sum_below w g k ≡ s = omega arith in
      not-both (rw z at (reach-complete w g k)) t)

  member-least : (k s : ℕ) (g : ℕ → Bool) → reach w k s ≡ true → sum_below w g k ≡ s
      → set_number (marks p (member w k s) k) ≤ set_number (marks p g k)
  unfolding filter up_to set_number
  member-least zero s g h e = omega arith
  member-least (suc k) s g h e = by-test (reach w k s)
      (λ t. least-old k s g e t (λ u. member-least k s g t u))
      (λ t. least-new k s g h e t (λ u. member-least k (s - w k) g (reach-new w k s h t).1 u))

-- ---- the join, where a place's weight is the people of a cell and 0 elsewhere

module _ (p : ℕ → Bool) (people w : ℕ → ℕ) (n limit : ℕ) (agree : (i : ℕ) → w i ≡ cond (p i) (people i) 0) where
  pays-cell : (i : ℕ) → 0 < w i → p i ≡ true
  pays-cell i h = by-test (p i) (λ t. t) (λ t. let z : w i ≡ 0 = agree i ∙ rw t in absurd (omega arith))

  total-is : (f : ℕ → Bool) → total_of (map people (filter p (up_to n))) (marks p f n) ≡ sum_below w f n
  total-is f =
      total-marks people f (filter p (up_to n))
      ∙ sum-filter (λ (i : ℕ). cond (f i) (people i) 0) p n
      ∙ sum_same (λ (i : ℕ). cond (f i) (people i) 0) w p f n
      (λ i h. swap (people i) (p i) (f i) ∙ ap (λ (m : ℕ). cond (f i) m 0) (sym (agree i)))
    where
      swap : (m : ℕ) (a b : Bool) → cond a (cond b m 0) 0 ≡ cond b (cond a m 0) 0
      swap m true b = refl
      swap m false true = refl
      swap m false false = refl

  -- what holds of the marks that tests give holds of every set of the cells
  by-marks : (P : List Bool → Type 0) → ((g : ℕ → Bool) → P (marks p g n))
      → (set : List Bool) → length set ≡ length (map people (filter p (up_to n))) → P set
  by-marks P h set e =
      let l : List ℕ = filter p (up_to n) in
      subst P (marks-taken l set (distinct-below p n) (e ∙ length-map l people)) (h (λ (i : ℕ). among i (taken_of l set)))

  -- the table's set is what the rule asks
  table-chosen : Chosen (map people (filter p (up_to n))) limit (marks p (chosen w n limit) n)
  unfolding chosen
  table-chosen =
      let l : List ℕ = filter p (up_to n) in
      let values : List ℕ = map people l in
      let s : ℕ = greatest_of w n limit in
      let r = greatest-reach w n limit in
      let mine : total_of values (marks p (member w n s) n) ≡ s = total-is (member w n s) ∙ member-total w n s r in
      record {
        each = length-map l (member w n s) ∙ sym (length-map l people);
        within = rw mine (greatest-within w n limit);
        greatest = by-marks (λ set. total_of values set ≤ limit → total_of values set ≤ total_of values (marks p (member w n s) n))
            (λ g h. rw (mine, total-is g) (greatest-most w n limit (sum_below w g n) (rw (total-is g) at h) (reach-complete w g n)));
        least = by-marks
            (λ set. total_of values set ≡ total_of values (marks p (member w n s) n)
            → set_number (marks p (member w n s) n) ≤ set_number set)
            (λ g e. member-least p w pays-cell n s g r (sym (total-is g) ∙ e ∙ mine));
      }

  pub taken-chosen : (i : ℕ)
      → among i (taken_of (filter p (up_to n)) (the_subset (map people (filter p (up_to n))) limit)) ≡ chosen w n limit i
  unfolding chosen
  taken-chosen i =
      let l : List ℕ = filter p (up_to n) in
      let f : ℕ → Bool = chosen w n limit in
      let is : taken_of l (the_subset (map people l) limit) ≡ filter f l
      = ap (taken_of l) (sym (chosen-only (map people l) limit (marks p f n) table-chosen)) ∙ taken-marks f l in
      rw is (same_test (among i (filter f l)) (f i)
      (λ h. (mem-filter f l i (among-mem (filter f l) i h)).1)
      (λ h. mem-among (filter f l) i (filter-mem f l i (filter-mem p (up_to n) i (in-up_to n i (low i h)) (cell i h)) h)))
    where
      low : (i : ℕ) → chosen w n limit i ≡ true → i < n
      low i h = by-test (ltb i n)
          (λ t. ltb-true i n t)
          (λ t. not-both h (member-out w n (greatest_of w n limit) i (ltb-false i n t)))

      cell : (i : ℕ) → chosen w n limit i ≡ true → p i ≡ true
      cell i h = pays-cell i (member-pays w n (greatest_of w n limit) i (greatest-reach w n limit) h)

-- the cells that are left out are the chosen places
pub left-out-chosen : (mask people : List ℕ) (n slack i : ℕ) → among i (left_out mask people n slack) ≡ chosen (weight mask people) n slack i
unfolding left_out candidates
left-out-chosen mask people n slack =
    taken-chosen _ (people_at people) (weight mask people) n slack (λ i. cell (eqb (get_or mask i 0) 2) (people_at people i))
  where
    -- a cell without people adds nothing either way
    cell : (b : Bool) (m : ℕ) → cond b m 0 ≡ cond (b && ltb 0 m) m 0
    cell true m = by-test (ltb 0 m) (λ t. rw t) (λ t. let z = ltb-false 0 m t in rw t (omega arith))
    cell false m = refl

-- ---- what `leave_out` does

module _ (people : List ℕ) (n slack : ℕ) (mask table : List ℕ) where
  pub strikes-chosen : (after entries : List ℕ) → roomy (length mask) (length people) n slack (length table) ≡ true
      → Struck (chosen (weight mask people) n slack) mask after → ((s : ℕ) → slack < s → get_or entries s 0 ≡ get_or table s 0)
      → LeavesOut people n slack mask after table entries
  strikes-chosen after entries h struck rest = record {
    bytes = λ i. rw (h, left-out-chosen mask people n slack i) (struck i);
    unused = λ s k. rest s (k h);
  }
