-- Laws of an area's places that the crates above cite. Assumes nothing.
use Prim.Native.Nat.{ℕ, zero, suc, ◌+◌, ◌*◌, ◌/◌, ◌%◌, ◌≤◌}
use mathlib.Core.Path.{◌≡◌, refl, sym, ap, subst, ◌∙◌}
use mathlib.Core.List.{List, []}
use mathlib.Core.Bool.{Bool, cond}
use native.Mathlib.Omega.{arith}
use native.Mathlib.Nat.{suc-mul, zero-mul}
use lib.Dec.{ltb}
use lib.ListN.{length, get_or, take, get_or-eq_default}
use lib.Seq.{take-length}
use borrow.Author.Tests.{ltb-true, ltb-false}
use Rattle.lists.specs.Sums.{All, total, sum_below}
use Rattle.lists.proofs.Tests.{by-test}
use Rattle.lists.proofs.SumLaws.{all_get_d, total-next}
use Rattle.lists.proofs.BelowLaws.{sum_same, sum-from}
use Rattle.map.specs.Format.{Place, gap, cell, people_at, population}
use Rattle.map.specs.Accepted.{PlaceHolds, RowHolds, GridHolds}
use Rattle.places.specs.Places.{place_of, is_cell}
use Rattle.places.proofs.LayLaws.{place-in-row}

-- ---- one place

-- the people of a place are those of its cell
cell-people : (p : Place) → cond (is_cell p) (people_at p) 0 ≡ people_at p
cell-people gap = refl
cell-people (cell c) = refl

-- "people, u32, 0 to 1,000,000", and past the grid there is no cell
pub place-small : (columns rows : ℕ) (grid : List (List Place)) → GridHolds columns rows grid
    → (i : ℕ) → people_at (place_of grid columns i) ≤ 1_000_000
place-small columns rows grid g i = at_most (place_of grid columns i) (holds_at PlaceHolds row (i % columns) gap tt in_row)
  where
    at_most : (p : Place) → PlaceHolds p → people_at p ≤ 1_000_000
    at_most gap h = omega arith
    at_most (cell c) h = h.people

    holds_at : {A : Type 0} (P : A → Type 0) (l : List A) (k : ℕ) (d : A) → P d → All P l → P (get_or l k d)
    holds_at P l k d q h = by-test (ltb k (length l))
        (λ t. all_get_d P l k d h (ltb-true k (length l) t))
        (λ t. subst P (sym (get_or-eq_default l d (ltb-false k (length l) t))) q)

    row : List Place
    row = get_or grid (i / columns) []

    in_row : All PlaceHolds row
    in_row = by-test (ltb (i / columns) (length grid))
        (λ t. (all_get_d (RowHolds columns) grid (i / columns) [] g.1 (ltb-true (i / columns) (length grid) t)).1)
        (λ t. subst (All PlaceHolds) (sym (get_or-eq_default grid [] (ltb-false (i / columns) (length grid) t))) tt)

-- ---- all places

-- the people of a row's first n places
row-sum : (row : List Place) (n : ℕ) → n ≤ length row
    → sum_below (λ j. people_at (get_or row j gap)) (λ j. is_cell (get_or row j gap)) n ≡ total people_at (take n row)
unfolding sum_below
row-sum row zero h = refl
row-sum row (suc n) h =
    let a = row-sum row n (omega arith) in
    let b = cell-people (get_or row n gap) in
    let e = total-next people_at row n gap (omega arith) in
    omega arith

module _ (columns rows : ℕ) (grid : List (List Place)) (g : GridHolds columns rows grid) where
  abbrev people : ℕ → ℕ
  people i = people_at (place_of grid columns i)

  abbrev cells : ℕ → Bool
  cells i = is_cell (place_of grid columns i)

  -- the people of the first n rows
  rows-sum : (n : ℕ) → n ≤ rows → sum_below people cells (n * columns) ≡ total (total people_at) (take n grid)
  unfolding sum_below
  rows-sum zero h = ap (sum_below people cells) (zero-mul columns)
  rows-sum (suc n) h =
      let long = g.0 in
      let row = get_or grid n [] in
      let has = (all_get_d (RowHolds columns) grid n [] g.1 (omega arith)).0 in
      let before = rows-sum n (omega arith) in
      let here : sum_below (λ j. people (n * columns + j)) (λ j. cells (n * columns + j)) columns ≡ total people_at row =
      sum_same (λ j. people (n * columns + j)) (λ j. people_at (get_or row j gap))
      (λ j. cells (n * columns + j)) (λ j. is_cell (get_or row j gap)) columns
      (λ j b. ap (λ (p : Place). cond (is_cell p) (people_at p) 0) (sym (place-in-row grid n columns (n * columns) j refl b)))
      ∙ row-sum row columns (omega arith)
      ∙ ap (total people_at) (ap (λ (k : ℕ). take k row) (sym has) ∙ take-length row) in
      ap (sum_below people cells) (suc-mul n columns)
      ∙ sum-from people cells (n * columns) columns
      ∙ (λ i. before i + here i)
      ∙ sym (total-next (total people_at) grid n [] (omega arith))

  -- "An area's population is the sum of its cells' people": counted by place
  pub people-sum : sum_below people cells (rows * columns) ≡ population grid
  people-sum =
      rows-sum rows (omega arith)
      ∙ ap (total (total people_at)) (ap (λ (k : ℕ). take k grid) (sym g.0) ∙ take-length grid)
