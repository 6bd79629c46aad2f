-- There is an allowed choice: areas are taken whole while they fit, and the first that does not is partial. Assumes nothing.
use Prim.Native.Nat.{ℕ, suc, ◌+◌, ◌-◌, ◌<◌, ◌≤◌}
use mathlib.Core.Path.{◌≡◌, refl, subst, ◌∙◌}
use mathlib.Core.Bool.{Bool, true, false, cond}
use mathlib.Core.Logic.{◌⊎◌, inl, inr, ⊎_elim}
use mathlib.Core.List.{List, [], ◌∷◌}
use native.Mathlib.Omega.{arith}
use lib.Dec.{ltb, leb}
use lib.ListN.{length, get_or}
use borrow.Author.Tests.{leb-true, leb-false, ltb-true, ltb-false}
use Rattle.lists.specs.Sums.{total}
use Rattle.search.specs.Choice.{Mark, out, whole, part, wholes, parts, entry_from, entry, cap, Allowed, outs, greedy}
use Rattle.search.specs.Proposal.{propose}
use Rattle.search.proofs.Optimal.{Right, propose-right}

-- every area left out
record Out (ms : List ℕ) (c : List Mark) : Type 0 where
  each : length c ≡ length ms
  none : parts c ≡ 0
  nothing : wholes ms c ≡ 0
  same : (at e : ℕ) → entry_from at e c ≡ e

outs-out : (ms : List ℕ) → Out ms (outs ms)
unfolding outs parts wholes entry_from
outs-out [] = record { each = refl; none = refl; nothing = refl; same = λ at e. refl }
outs-out (m ∷ ms) =
    let r = outs-out ms in
    record { each = omega (arith, r.each); none = r.none; nothing = r.nothing; same = λ at e. r.same (at + 1) e }

-- a choice that meets what is left: exactly, or with the area at place j partial
record Meets (ms : List ℕ) (left : ℕ) (c : List Mark) : Type 0 where
  each : length c ≡ length ms
  one : parts c ≤ 1
  under : wholes ms c ≤ left
  proper : (((at : ℕ) → entry_from at 0 c ≡ 0) × (left - wholes ms c ≡ 0))
      ⊎ ((j : ℕ) × ((at : ℕ) → entry_from at 0 c ≡ at + suc j) × (0 < left - wholes ms c) × (left - wholes ms c < get_or ms j 0))

greedy-meets : (ms : List ℕ) (left : ℕ) → left ≤ total (λ m. m) ms → Meets ms left (greedy ms left)
unfolding greedy parts wholes entry_from
greedy-meets [] left h = record {
  each = refl;
  one = omega arith;
  under = omega arith;
  proper = inl (λ at. refl, omega arith);
}
greedy-meets (m ∷ ms) left h = go (λ l. greedy-meets ms (left - m) l) (leb m left) (ltb 0 left) refl refl
  where
    o : Out ms (outs ms)
    o = outs-out ms

    go : (left - m ≤ total (λ m. m) ms → Meets ms (left - m) (greedy ms (left - m))) → (a b : Bool) → leb m left ≡ a → ltb 0 left ≡ b
        → Meets (m ∷ ms) left (cond a (whole ∷ greedy ms (left - m)) (cond b (part ∷ outs ms) (out ∷ outs ms)))
    go rec true b p q = let r = rec (omega arith) in record {
      each = omega (arith, r.each);
      one = r.one;
      under = omega (arith, r.under, leb-true m left p);
      proper = ⊎_elim
          (λ u. inl (λ at. u.0 (at + 1), omega (arith, u.1)))
          (λ u. inr (suc u.0, λ at. u.1 (at + 1) ∙ omega arith, omega (arith, u.2), omega (arith, u.3)))
          r.proper;
    }
    go rec false true p q = record {
      each = omega (arith, o.each);
      one = omega (arith, o.none);
      under = omega (arith, o.nothing);
      proper = inr (
        0,
        λ at. o.same (at + 1) (at + 1) ∙ omega arith,
        omega (arith, o.nothing, ltb-true 0 left q),
        omega (arith, o.nothing, leb-false m left p),
      );
    }
    go rec false false p q = record {
      each = omega (arith, o.each);
      one = omega (arith, o.none);
      under = omega (arith, o.nothing);
      proper = inl (λ at. o.same (at + 1) 0, omega (arith, o.nothing, ltb-false 0 left q));
    }

pub greedy-allowed : (T : ℕ) (ms : List ℕ) → T ≤ total (λ m. m) ms → Allowed T ms (greedy ms T)
greedy-allowed T ms h = let r = greedy-meets ms T h in record {
  each = r.each;
  one = r.one;
  under = r.under;
  proper = ⊎_elim
      (λ u. inl (u.0 0, u.1))
      (λ u. let e : suc u.0 ≡ entry (greedy ms T) = omega (arith, u.1 0) in
      inr (u.2, subst (λ (j : ℕ). T - wholes ms (greedy ms T) < cap ms j) e u.3))
      r.proper;
}

-- so the answer is right whatever the areas, as no v is above its M
pub always-right : (T : ℕ) (ms ws : List ℕ) (draw : ℕ) → T ≤ total (λ m. m) ms → Right T ms ws (propose T ms ws draw)
always-right T ms ws draw h = propose-right T ms ws (greedy ms T) (greedy-allowed T ms h) draw
