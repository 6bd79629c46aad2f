-- The loops that fill the table: where each begins, a turn, and the end. Assumes nothing.
use Prim.Native.Nat.{ℕ, suc, ◌+◌, ◌-◌, min, ◌≤◌, ◌<◌}
use mathlib.Core.Path.{◌≡◌, refl, sym, ap, subst, ◌∙◌}
use mathlib.Core.Bool.{true, false, not}
use mathlib.Core.List.{List, ◌++◌}
use native.Mathlib.Omega.{arith}
use native.Mathlib.Numerals.{add-one}
use lib.ListN.{length, get_or, set, drop, length-append, get_or-append}
use lib.Seq.{get_or-set_same, get_or-set_other, get_or-append_right, get_or-drop}
use lib.Dec.{leb, eqb}
use borrow.Author.Tests.{leb-true, leb-false, eqb-true, eqb-false}
use Rattle.lists.proofs.Tests.{by-test}
use Rattle.subset.specs.Table.{reach, entry, renewed, Filled, Added, Enough}
use Rattle.subset.proofs.ReachLaws.{reach-new}
use Rattle.subset.proofs.EntryLaws.{marked, entry-same}

-- ---- `clear`

-- the entries 0 to slack are the mark, and then the sum 0 has an entry
pub cleared : (N slack : ℕ) (before part : List ℕ) → slack < length before → length part ≡ slack + 1
    → ((s : ℕ) → s ≤ slack → get_or part s 0 ≡ N) → (w : ℕ → ℕ) → Filled N w 0 slack before (set (part ++ drop (slack + 1) before) 0 0)
unfolding entry
cleared N slack before part room size none w =
    let all : List ℕ = part ++ drop (slack + 1) before in
    let long : 0 < length all = omega (arith, length-append part (drop (slack + 1) before)) in
    record {
      entries = λ s h. by-test (eqb s 0)
          (λ t. rw (t, eqb-true s 0 t) (get_or-set_same all 0 0 0 long))
          (λ t. rw t (get_or-set_other all 0 s 0 0 (eqb-false s 0 t) ∙ get_or-append part _ 0 s (omega arith) ∙ none s h));
      others = λ s h.
          let m : slack + 1 + (s - length part) ≡ s = omega arith in
          get_or-set_other all 0 s 0 0 (omega arith) ∙ get_or-append_right part _ s 0 (omega arith)
          ∙ get_or-drop (slack + 1) before (s - length part) 0 ∙ rw m;
    }

-- ---- `add_place`

-- the sums from d + p on are renewed, those below and past `top` are as before
pub record Adding (N top p i : ℕ) (before now : List ℕ) (d : ℕ) : Type 0 where
  pub in-range : d + p ≤ top + 1
  pub kept : length now ≡ length before
  pub below : (s : ℕ) → s < d + p → get_or now s 0 ≡ get_or before s 0
  pub renewal : (s : ℕ) → d + p ≤ s → s ≤ top → get_or now s 0 ≡ renewed N i (get_or before s 0) true (get_or before (s - p) 0)
  pub others : (s : ℕ) → top < s → get_or now s 0 ≡ get_or before s 0

-- ---- `fill`

-- k places are in the table, and the sums that they reach are up to `top`; `lent` is the table before the first place
pub record Filling (N : ℕ) (w : ℕ → ℕ) (n slack : ℕ) (lent now : List ℕ) (top k : ℕ) : Type 0 where
  pub some : k ≤ n
  pub in-range : top ≤ slack
  pub filled : Filled N w k slack lent now
  pub bound : (s : ℕ) → s ≤ slack → reach w k s ≡ true → s ≤ top

module _ {N : ℕ} {w : ℕ → ℕ} {n slack : ℕ} {lent now : List ℕ} where
  pub filling-starts : Filled N w 0 slack lent now → Filling N w n slack lent now 0 0
  unfolding reach
  filling-starts f = record {
    some = omega arith;
    in-range = omega arith;
    filled = f;
    bound = λ s k r. let z = eqb-true s 0 r in omega arith;
  }

  pub filling-turns : {after : List ℕ} {top next p k : ℕ} → 0 < N → n ≤ N
      → Filling N w n slack lent now top k → k < n → p ≡ w k
      → (top ≤ next) × (next ≤ slack) × (p ≤ slack → min slack (top + p) ≤ next)
      → Added N next p k now after → Filling N w n slack lent after next (k + 1)
  unfolding entry
  filling-turns {after} {top} {next} {p} {k} pos few c less is goes added =
      let up = goes.0 in
      let down = goes.1 in
      rw (add-one k) (record {
        some = less;
        in-range = down;
        filled = record {
          entries = λ s h. by-test (leb s next)
              (λ t. added.upto s (leb-true s next t)
              ∙ rw (c.filled.entries s h, is, c.filled.entries (s - w k) (omega arith)))
              (λ t.
              let l = leb-false s next t in
              let none : reach w (suc k) s ≡ false = by-test (reach w (suc k) s)
              (λ r. let b = bound s h r in absurd (omega arith))
              (λ r. r) in
              added.others s l ∙ c.filled.entries s h ∙ sym (entry-same N w pos k s (omega arith) none));
          others = λ s h. added.others s (omega arith) ∙ c.filled.others s h;
        };
        bound = bound;
      })
    where
      bound : (s : ℕ) → s ≤ slack → reach w (suc k) s ≡ true → s ≤ next
      bound s h r =
          let up = goes.0 in
          by-test (reach w k s)
          (λ t. let b = c.bound s h t in omega arith)
          (λ t.
          let n = reach-new w k s r t in
          let b = c.bound (s - w k) (omega arith) n.1 in
          let m = goes.2 (omega arith) in
          omega arith)

  pub filling-stops : {top k : ℕ} → 0 < N → n ≤ N → Filling N w n slack lent now top k
      → (get_or now slack 0 ≡ N → ⊥) → Enough N w n k slack lent now
  filling-stops {top} {k} pos few c h =
      let b = c.some in
      record {
        some = b;
        filled = c.filled;
        enough = λ ne. by-test (reach w k slack)
            (λ r. r)
            (λ r. absurd (h
            (c.filled.entries slack (omega arith)
            ∙ eqb-true (entry N w k slack) N (marked N w pos k slack (omega arith) ∙ ap not r))));
      }

  pub filling-ends : {top k : ℕ} → Filling N w n slack lent now top k → n ≤ k → Enough N w n n slack lent now
  filling-ends {top} {k} c h =
      let some = c.some in
      let all : n ≡ k = omega arith in
      record { some = omega arith; filled = subst (λ (m : ℕ). Filled N w m slack lent now) (sym all) c.filled; enough = λ ne. absurd (ne refl) }
