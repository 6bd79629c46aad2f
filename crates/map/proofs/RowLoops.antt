-- Laws of the loops over a row's bytes and cells. Assumes nothing.
use Rattle.std.proofs.Common.{◌≡◌, ℕ, ◌+◌, ◌*◌, ◌%◌, ◌^◌, ◌<◌, ◌≤◌, Bool, true, cond, ◌&&◌, Some, None, List, [], ◌∷◌, ◌++◌, get_or, sym}
use Rattle.std.proofs.Common.{refl, ap, ◌∙◌}
use Rattle.std.proofs.Common.{mod-eq_of_lt, add-one, arith}
use native.Mathlib.Nat.{mod-add-mod}
use lib.Count.{ones, ones-le}
use Rattle.std.specs.Bool.{then_some}
use Rattle.lists.proofs.Tests.{by-test}
use Rattle.lists.specs.Sums.{total}
use Rattle.map.specs.declared.Cell.{Cell}
use Rattle.map.specs.Cells.{bits_from, cell_at, cell_within, cells_within, cells_from}
use Rattle.map.proofs.RowLaws.{bits-next, cells-length, cells-next, total-next, within-next, within-people}

-- ---- the bits of a bit map

-- the invariant of the loop over the bytes of a bit map, at byte k
pub record Counted (s : List ℕ) (at k n : ℕ) : Type 0 where
  pub small : n ≤ 8 * k
  pub is : n ≡ bits_from s at 0 (k * 8)

pub count-starts : (s : List ℕ) (at : ℕ) → Counted s at 0 0
unfolding bits_from
count-starts s at = record { small = omega arith; is = refl }

pub count-turns : {s : List ℕ} {at k n : ℕ} (c : Counted s at k n) {b : ℕ} → get_or s (at + k) 0 < 256 → b ≡ get_or s (at + k) 0
    → Counted s at (k + 1) (n + ones b)
count-turns {s} {at} {k} {n} c {b} l e =
    let few : ones b ≤ 8 = rw e (ones-le 8 (get_or s (at + k) 0) l) in
    record { small = omega (arith, c.small); is = (λ i. c.is i + ones (e i)) ∙ sym (bits-next s at k l) }

-- ---- the loops over the cells of a row

-- the invariant of the sum, at cell k
pub record Summed (s : List ℕ) (at k : ℕ) (fine : Bool) (people : ℕ) : Type 0 where
  pub tested : fine ≡ cells_within (cells_from s at k)
  pub wraps : people ≡ total (λ c. c.people) (cells_from s at k) % 2 ^ 32

pub sum-starts : (s : List ℕ) (at : ℕ) → Summed s at 0 true 0
unfolding cells_from cells_within
sum-starts s at = record { tested = refl; wraps = refl }

module _ {s : List ℕ} {at k : ℕ} {fine : Bool} {people : ℕ} (w : Summed s at k fine people) where
  pub sum-turns : {t : Bool} {c : Cell} {sum : ℕ} → t ≡ cell_within c → c ≡ cell_at s (at + 12 * k)
      → sum ≡ (people + c.people) % 2 ^ 32 → Summed s at (k + 1) (fine && t) sum
  sum-turns {t} {c} {sum} q e r =
      let next : cells_from s at (k + 1) ≡ cells_from s at k ++ (c ∷ []) = rw (add-one, e) (cells-next s k at) in
      let sum_to : ℕ → ℕ = λ j. total (λ d. d.people) (cells_from s at j) in
      let more : sum_to (k + 1) ≡ sum_to k + c.people = rw (add-one, e) (total-next s (λ d. d.people) k at) in
      record {
        tested = (λ i. w.tested i && q i) ∙ sym (ap cells_within next ∙ within-next (cells_from s at k) c);
        wraps = r ∙ ap (λ (m : ℕ). (m + c.people) % 2 ^ 32) w.wraps ∙ mod-add-mod (sum_to k) (2 ^ 32) c.people
            ∙ ap (λ (m : ℕ). m % 2 ^ 32) (sym more);
      }

  -- 256 cells within their limits have at most 256,000,000 people
  pub sum-ends : k ≤ 256 → then_some fine people
      ≡ cond (cells_within (cells_from s at k)) (Some (total (λ c. c.people) (cells_from s at k))) None
  sum-ends h =
      by-test fine
      (λ t.
      let fits = within-people (cells_from s at k) (sym w.tested ∙ t) in
      let size = cells-length s k at in
      let is : people ≡ total (λ c. c.people) (cells_from s at k) = w.wraps ∙ mod-eq_of_lt (omega arith) in
      rw (sym w.tested, t, is))
      (λ t. rw (sym w.tested, t))
