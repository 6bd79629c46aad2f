-- The read-back: where its loop begins, a turn, and the end. Assumes nothing.
use Prim.Native.Nat.{ℕ, ◌-◌, ◌≤◌, ◌<◌}
use mathlib.Core.Path.{◌≡◌, refl, sym, ap, ◌∙◌}
use mathlib.Core.Bool.{Bool, true, false, cond, ◌||◌}
use mathlib.Core.List.{List}
use native.Mathlib.Omega.{arith}
use lib.ListN.{length, get_or, set}
use lib.Seq.{get_or-set_same, get_or-set_other}
use lib.Dec.{eqb}
use borrow.Author.Tests.{eqb-true, eqb-false, eq-eqb}
use Rattle.lists.proofs.Tests.{by-test}
use Rattle.subset.specs.Marked.{people_at}
use Rattle.subset.specs.Table.{weight, reach, member, strike, Struck, Readable}
use Rattle.subset.proofs.ReachLaws.{member-zero}
use Rattle.subset.proofs.EntryLaws.{Step, step_back}

-- the members of what is left of the sum are still to be struck
pub record Striking (w : ℕ → ℕ) (k sum : ℕ) (before now : List ℕ) (s : ℕ) : Type 0 where
  pub in-range : s ≤ sum
  pub reached : reach w k s ≡ true
  pub left : (i : ℕ) → strike (member w k s i) (get_or now i 0) ≡ strike (member w k sum i) (get_or before i 0)

pub striking-starts : {w : ℕ → ℕ} {k s : ℕ} {l : List ℕ} → reach w k s ≡ true → Striking w k s l l s
striking-starts r = record { in-range = omega arith; reached = r; left = λ i. refl }

module _ {w : ℕ → ℕ} {k sum : ℕ} {before now : List ℕ} {s : ℕ} (c : Striking w k sum before now s) where
  striking-turns : {e : ℕ} → Step w k s e → k ≤ length now → Striking w k sum before (set now e 0) (s - w e)
  striking-turns {e} q l =
      let r = c.in-range in
      let b = q.low in
      let mark : (i : ℕ) → Bool → ℕ = λ i b. strike b (get_or now i 0) in
      let rest : ℕ → Bool = member w k (s - w e) in
      record {
        in-range = omega arith;
        reached = q.reached;
        left = λ i. by-test (eqb i e)
            (λ t. rw (eqb-true i e t, get_or-set_same now e 0 0 (omega arith))
            (zero (rest e) ∙ sym (ap (mark e) (q.members e ∙ ap (λ (b : Bool). b || rest e) (eq-eqb e e refl))) ∙ c.left e))
            (λ t. rw (get_or-set_other now e i 0 0 (eqb-false i e t))
            (sym (ap (mark i) (q.members i ∙ ap (λ (b : Bool). b || rest i) t)) ∙ c.left i));
      }
    where
      zero : (b : Bool) → strike b 0 ≡ 0
      zero true = refl
      zero false = refl

  pub striking-ends : s ≤ 0 → Struck (member w k sum) before now
  striking-ends h i =
      let z : s ≡ 0 = omega arith in
      let m : member w k s i ≡ false = rw z (member-zero w k i) in
      rw m at (c.left i)

-- ---- a turn

-- the entry e of what is left is a place below k with people, no more than what is left, and is struck
pub record Turn (mask people : List ℕ) (k sum : ℕ) (now : List ℕ) (s e : ℕ) : Type 0 where
  pub low : e < k
  pub pays : 0 < people_at people e
  pub within : people_at people e ≤ s
  pub next : Striking (weight mask people) k sum mask (set now e 0) (s - people_at people e)

-- a weight above 0 is the people
heavy : (b : Bool) (p : ℕ) → 0 < cond b p 0 → cond b p 0 ≡ p
heavy true p h = refl
heavy false p h = absurd (omega arith)

pub entry-turn : {N : ℕ} {mask people : List ℕ} {k : ℕ} {table : List ℕ} {sum : ℕ} {now : List ℕ} {s e : ℕ} → 0 < N
    → Readable N mask people k table sum → Striking (weight mask people) k sum mask now s → length now ≡ length mask → 0 < s
    → e ≡ get_or table s 0 → Turn mask people k sum now s e
entry-turn {N} {mask} {people} {k} {table} {sum} {now} {s} {e} pos r c kept some entry =
    let step : Step (weight mask people) k s e =
    rw (entry, r.entries s c.in-range) (step_back N (weight mask people) pos k s r.room.few some c.reached) in
    let is : weight mask people e ≡ people_at people e = heavy (eqb (get_or mask e 0) 2) (people_at people e) step.pays in
    let pays = step.pays in
    let within = step.within in
    let room = r.room.bytes in
    record {
      low = step.low;
      pays = omega arith;
      within = omega arith;
      next = rw (← is) (striking-turns c step (omega arith));
    }
