-- Laws of boxes: the edges of each, where they are packed. Assumes nothing.
use Rattle.std.proofs.Common.{◌≡◌, ℕ, ◌+◌, ◌*◌, ◌/◌, ◌≤◌, ◌<◌, Bool, true, ℤ, pos, length, get_or, get_or-take, length-take-le, sym, ap, ◌∙◌, arith}
use native.Mathlib.Nat.{mul-div_cancel_left}
use Rattle.lists.specs.Sums.{flag, count, sum_to}
use Rattle.lists.proofs.BelowLaws.{sum_same}
use Rattle.lists.proofs.SumLaws.{count_same}
use Rattle.boxes.specs.Boxes.{box_covers, box_at, edges_of, boxes_over, width_over}
use Rattle.boxes.specs.declared.Boxes.{Boxes}

-- box i covers a point
abbrev pub test_of : Boxes → (latitude longitude : ℤ) → (i : ℕ) → Bool
test_of boxes latitude longitude i =
    let n = boxes.count in
    let edge : ℕ → ℤ = λ k. get_or boxes.edges k (pos 0) in
    box_covers (edge i) (edge (n + i)) (edge (2 * n + i)) (edge (3 * n + i)) latitude longitude

-- the edges that boxes have, and that of each
module _ (boxes : Boxes) (e : length boxes.edges ≡ 256) (few : boxes.count ≤ 64) where
  pub quarter : length (edges_of boxes) / 4 ≡ boxes.count
  quarter = ap (λ (n : ℕ). n / 4) (length-take-le (4 * boxes.count) boxes.edges (omega (arith, e))) ∙ mul-div_cancel_left boxes.count (omega arith)

  pub box_same : (x y : ℤ) (i : ℕ) → i < boxes.count → box_at (edges_of boxes) x y (length (edges_of boxes) / 4) i ≡ test_of boxes x y i
  box_same x y i l =
      ap (λ (n : ℕ). box_at (edges_of boxes) x y n i) quarter
      ∙ (λ j. box_covers (same i (omega arith) j) (same (boxes.count + i) (omega arith) j)
      (same (2 * boxes.count + i) (omega arith) j) (same (3 * boxes.count + i) (omega arith) j) x y)
    where
      same : (k : ℕ) → k < 4 * boxes.count → get_or (edges_of boxes) k (pos 0) ≡ get_or boxes.edges k (pos 0)
      same k b = get_or-take (4 * boxes.count) boxes.edges k (pos 0) b

  -- how many boxes cover a point, and their widths
  pub boxes_same : (x y : ℤ) → count (test_of boxes x y) boxes.count ≡ boxes_over (edges_of boxes) x y
  unfolding boxes_over
  boxes_same x y =
      let n = length (edges_of boxes) / 4 in
      sym (ap (count (box_at (edges_of boxes) x y n)) quarter
      ∙ count_same (box_at (edges_of boxes) x y n) (test_of boxes x y) boxes.count (λ i l. box_same x y i l))

  pub widths_same : (x y : ℤ)
      → sum_to (λ i. get_or boxes.widths i 0 * flag (test_of boxes x y i)) boxes.count ≡ width_over (edges_of boxes) boxes.widths x y
  unfolding width_over
  widths_same x y =
      let n = length (edges_of boxes) / 4 in
      let width : (ℕ → Bool) → ℕ → ℕ = λ test i. get_or boxes.widths i 0 * flag (test i) in
      sym (ap (sum_to (width (box_at (edges_of boxes) x y n))) quarter
      ∙ sum_same (width (box_at (edges_of boxes) x y n)) (width (test_of boxes x y)) (λ _. true) (λ _. true) boxes.count
      (λ i l. ap (λ (t : Bool). get_or boxes.widths i 0 * flag t) (box_same x y i l)))
