-- Laws of the table's entries, at every mark N for none: they give the chosen set. Assumes nothing.
use Prim.Native.Nat.{ℕ, zero, suc, ◌+◌, ◌-◌, ◌≤◌, ◌<◌}
use mathlib.Core.Path.{◌≡◌, refl, sym, ap, ◌∙◌}
use mathlib.Core.Bool.{Bool, true, false, cond, not, ◌&&◌, ◌||◌}
use mathlib.Core.List.{List}
use native.Mathlib.Omega.{arith}
use lib.ListN.{length, get_or}
use lib.Dec.{leb, eqb}
use borrow.Author.Tests.{eqb-true, eqb-false, le-leb, eq-eqb, ne_eqb}
use Rattle.lists.proofs.Tests.{by-test, not-both}
use Rattle.subset.specs.Table.{weight, reach, member, greatest_of, chosen, entry, renewed, Room, Enough, Topmost, Readable}
use Rattle.subset.proofs.ReachLaws.{reach-new, new-pays, reach-more, reach-stay, reach-zero, greatest-is}
use Rattle.subset.proofs.ReachLaws.{member-old, member-new, member-stay}

-- ---- one entry, by whether its sum was reached and whether the place reaches it

renew-old : (N i here : ℕ) (ok : Bool) (lower : ℕ) → eqb here N ≡ false → renewed N i here ok lower ≡ here
renew-old N i here ok lower h = rw h

renew-new : (N i here : ℕ) (ok : Bool) (lower : ℕ) → eqb here N ≡ true → ok ≡ true → eqb lower N ≡ false
    → renewed N i here ok lower ≡ i
renew-new N i here ok lower h k l = rw (h, k, l)

module _ (N : ℕ) (w : ℕ → ℕ) (pos : 0 < N) where
  -- an entry is the mark exactly where its sum is not reached
  pub marked : (k s : ℕ) → k ≤ N → eqb (entry N w k s) N ≡ not (reach w k s)
  unfolding entry reach
  marked zero s h = by-test (eqb s 0) (λ t. rw t (ne_eqb 0 N (omega arith))) (λ t. rw t (eq-eqb N N refl))
  marked (suc k) s h =
      let a : eqb (entry N w k s) N ≡ not (reach w k s) = marked k s (omega arith) in
      let b : eqb (entry N w k (s - w k)) N ≡ not (reach w k (s - w k)) = marked k (s - w k) (omega arith) in
      rw (a, b) (go (reach w k s) (leb (w k) s) (reach w k (s - w k)) a)
    where
      go : (x y z : Bool) → eqb (entry N w k s) N ≡ not x
          → eqb (cond (not x && (y && not (not z))) k (entry N w k s)) N ≡ not (x || (y && z))
      go true y z e = e
      go false true true e = ne_eqb k N (omega arith)
      go false true false e = e
      go false false z e = e

  entry_old : (k s : ℕ) → k ≤ N → reach w k s ≡ true → entry N w (suc k) s ≡ entry N w k s
  unfolding entry
  entry_old k s h r = renew-old N k (entry N w k s) (leb (w k) s) (entry N w k (s - w k)) (marked k s h ∙ ap not r)

  entry_new : (k s : ℕ) → k ≤ N → reach w k s ≡ false → reach w (suc k) s ≡ true → entry N w (suc k) s ≡ k
  unfolding entry
  entry_new k s h r q =
      let n = reach-new w k s q r in
      renew-new N k (entry N w k s) (leb (w k) s) (entry N w k (s - w k))
      (marked k s h ∙ ap not r) (le-leb (w k) s n.0) (marked k (s - w k) h ∙ ap not n.1)

  -- the entry of a sum that is still not reached stays
  pub entry-same : (k s : ℕ) → k < N → reach w (suc k) s ≡ false → entry N w (suc k) s ≡ entry N w k s
  entry-same k s h r =
      let o : reach w k s ≡ false = by-test (reach w k s) (λ t. not-both (reach-more w k s t) r) (λ t. t) in
      eqb-true (entry N w (suc k) s) N (marked (suc k) s h ∙ ap not r)
      ∙ sym (eqb-true (entry N w k s) N (marked k s (omega arith) ∙ ap not o))

-- ---- the way back

-- one step back from a sum that k places reach: e is its entry, and what is left
pub record Step (w : ℕ → ℕ) (k s e : ℕ) : Type 0 where
  pub low : e < k
  pub pays : 0 < w e
  pub within : w e ≤ s
  pub reached : reach w k (s - w e) ≡ true
  pub members : (i : ℕ) → member w k s i ≡ (eqb i e || member w k (s - w e) i)

module _ (N : ℕ) (w : ℕ → ℕ) (pos : 0 < N) where
  pub step_back : (k s : ℕ) → k ≤ N → 0 < s → reach w k s ≡ true → Step w k s (entry N w k s)
  unfolding reach
  step_back zero s h q r = let z = eqb-true s 0 r in absurd (omega arith)
  step_back (suc k) s h q r = by-test (reach w k s)
      (λ t.
      let ih = step_back k s (omega arith) q t in
      let e = entry N w k s in
      let l = ih.low in
      rw (entry_old N w pos k s (omega arith) t) (record {
        low = omega arith;
        pays = ih.pays;
        within = ih.within;
        reached = reach-more w k (s - w e) ih.reached;
        members = λ i. member-old w k s i t ∙ ih.members i
            ∙ ap (λ (b : Bool). eqb i e || b) (sym (member-old w k (s - w e) i ih.reached));
      }))
      (λ t.
      let n = reach-new w k s r t in
      rw (entry_new N w pos k s (omega arith) t r) (record {
        low = omega arith;
        pays = new-pays w k s r t;
        within = n.0;
        reached = reach-more w k (s - w k) n.1;
        members = λ i. member-new w k s i t ∙ ap (λ (b : Bool). eqb i k || b) (sym (member-old w k (s - w k) i n.1));
      }))

  -- the greatest sum that has an entry is reached, and is the greatest sum of the places in the table
  pub topmost-is : (k slack r : ℕ) (l : List ℕ) → k ≤ N → ((s : ℕ) → s ≤ slack → get_or l s 0 ≡ entry N w k s)
      → Topmost N slack l r → (reach w k r ≡ true) × (r ≡ greatest_of w k slack)
  topmost-is k slack r l few e top =
      let m : (s : ℕ) → eqb (entry N w k s) N ≡ not (reach w k s) = λ s. marked N w pos k s few in
      let at : reach w k r ≡ true = by-test (reach w k r) (λ t. t)
      (λ t. by-test (eqb r 0)
      (λ z. rw (eqb-true r 0 z) (reach-zero w k))
      (λ z.
      let ne = eqb-false r 0 z in
      absurd (top.found (omega arith) (e r top.within ∙ eqb-true (entry N w k r) N (m r ∙ ap not t))))) in (
        at,
        greatest-is w k slack r top.within at (λ s q z. by-test (reach w k s)
            (λ t. not-both (eq-eqb (entry N w k s) N (sym (e s z) ∙ top.above s q z)) (m s ∙ ap not t))
            (λ t. t)),
      )

-- its members are the chosen places, where the places in the table are all or reach the slack
pub enough-chosen : (w : ℕ → ℕ) (n k slack : ℕ) → k ≤ n → ((k ≡ n → ⊥) → reach w k slack ≡ true)
    → (i : ℕ) → member w k (greatest_of w k slack) i ≡ chosen w n slack i
unfolding chosen
enough-chosen w n k slack some enough i = by-test (eqb k n)
    (λ t. rw (eqb-true k n t))
    (λ t.
    let r = enough (eqb-false k n t) in
    let m : n - k + k ≡ n = omega arith in
    let q : reach w n slack ≡ true = rw m at (reach-stay w k (n - k) slack r) in
    let a = greatest-is w k slack slack (omega arith) r (λ s q z. absurd (omega arith)) in
    let b = greatest-is w n slack slack (omega arith) q (λ s q z. absurd (omega arith)) in
    rw (← a, ← b) (sym (rw m at (member-stay w k (n - k) slack i r))))

-- what the fill and the search for the greatest sum leave: that sum can be read back, and its set is the chosen one
pub found : {N : ℕ} {mask people : List ℕ} {n slack k r : ℕ} {table filled : List ℕ} → 0 < N
    → Room N (length mask) (length people) n slack (length table) → Enough N (weight mask people) n k slack table filled
    → length filled ≡ length table → Topmost N slack filled r
    → Readable N mask people k filled r × ((i : ℕ) → member (weight mask people) k r i ≡ chosen (weight mask people) n slack i)
found {N} {mask} {people} {n} {slack} {k} {r} {table} {filled} pos room e same top =
    let some = e.some in
    let within = top.within in
    let few = room.few in
    let bytes = room.bytes in
    let counts = room.counts in
    let entries = room.entries in
    let is = topmost-is N (weight mask people) pos k slack r filled (omega arith) e.filled.entries top in (
      record {
        room = record { entries = omega arith; few = omega arith; bytes = omega arith; counts = omega arith };
        reached = is.0;
        entries = λ s h. e.filled.entries s (omega arith);
      },
      λ i. rw (is.1) (enough-chosen (weight mask people) n k slack some e.enough i),
    )
