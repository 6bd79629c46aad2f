-- `boxes::rows::under_boxes`: one box more. Assumes nothing.
use Rattle.std.proofs.Common.{◌≡◌, ℕ, ℤ, ◌+◌, ◌*◌, ◌≤◌, ◌<◌, Bool, true, arith, ap, ◌∙◌, pos, get_or, length, rules}
use native.Mathlib.Nat.{mul-le-mul}
use Rattle.lists.specs.Sums.{sum_to, count}
use Rattle.lists.proofs.BelowLaws.{sum_same}
use Rattle.boxes.specs.Boxes.{edges_of, boxes_over, width_over}
use Rattle.boxes.specs.Rows.{UnderBox}
use Rattle.boxes.proofs.BoxLaws.{test_of, quarter, boxes_same, widths_same}
use Rattle.boxes.proofs.RowLaws.{under-start, under_next, width_to, most-next}
use Rattle.boxes.proofs.rows.under_boxes.Goals as goal

pub loop-i-init : goal.loop-i-init
loop-i-init c =
    let row = c.args.row.now in
    let none = under-start c.args.boxes.now.widths row.people row.count
    (λ k. test_of c.args.boxes.now (get_or row.latitudes k (pos 0)) (get_or row.longitudes k (pos 0))) in
    (omega arith, omega arith, none.0, none.1, λ j b. absurd (omega arith))

-- the MHz-pops under one box
few : {width people : ℕ} → width < 256 → people ≤ 256_000_000 → width * people ≤ 255 * 256_000_000
few w p = mul-le-mul {n₂ = 255} (omega arith) p

pub overflow_add-mhz_pops : goal.overflow_add-mhz_pops
overflow_add-mhz_pops c =
    let narrow : get_or c.args.boxes.now.widths c.loop-i.i 0 < 256 = search rules in
    let wide : c.from.result < 256 = omega (arith, narrow, c.from.ensures) in
    let held : c.from-in-loop-i.result ≤ 256_000_000 = omega (arith, c.from-in-loop-i.ensures, c.under_box-under.ensures.few-people) in
    omega (arith, few wide held, c.loop-i.invariant.0, c.loop-i-test.true, c.args.boxes.now.few)

pub loop-i-preserved : goal.loop-i-preserved
loop-i-preserved c =
    let boxes = c.args.boxes.now in
    let row = c.args.row.now in
    let l = c.loop-i in
    let u = c.under_box-under.result in
    let at = c.at.ensures in
    let narrow : get_or boxes.widths l.i 0 < 256 = search rules in
    let wide : c.from.result < 256 = omega (arith, narrow, c.from.ensures) in
    let held : c.from-in-loop-i.result ≤ 256_000_000 = omega (arith, c.from-in-loop-i.ensures, c.under_box-under.ensures.few-people) in
    let cells : c.from-cells.result ≤ 256 = omega (arith, c.from-cells.ensures, c.under_box-under.ensures.few-cells) in
    let tests : ℕ → ℕ → Bool = λ k. test_of boxes (get_or row.latitudes k (pos 0)) (get_or row.longitudes k (pos 0)) in
    let under : UnderBox row.people (λ k. tests k l.i) row.count u =
    rw (at.south, at.north, at.west, at.east) at c.under_box-under.ensures in
    let next = under_next boxes.widths row.people row.count l.i tests u under in (
      omega (arith, few wide held, l.invariant.0),
      omega (arith, cells, l.invariant.1),
      (λ i. l.invariant.2 i + c.from.ensures i * c.from-in-loop-i.ensures i) ∙ next.0,
      (λ i. l.invariant.3 i + c.from-cells.ensures i) ∙ next.1,
      most-next (λ j. get_or boxes.widths j 0) 255 l.i l.invariant.4 (omega (arith, narrow)),
    )

pub returns : goal.returns
returns c =
    let boxes = c.args.boxes.now in
    let row = c.args.row.now in
    let l = c.loop-i in
    let all : l.i ≡ boxes.count = omega (arith, l.auto.i-end, c.loop-i-test.false) in
    let room : length boxes.edges ≡ 256 = search rules in
    let x : ℕ → ℤ = λ k. get_or row.latitudes k (pos 0) in
    let y : ℕ → ℤ = λ k. get_or row.longitudes k (pos 0) in
    record {
      mhz-pops = l.invariant.2
          ∙ ap (λ (i : ℕ). sum_to (λ k. get_or row.people k 0 * width_to boxes.widths (test_of boxes (x k) (y k)) i) row.count) all
          ∙ sum_same (λ k. get_or row.people k 0 * width_to boxes.widths (test_of boxes (x k) (y k)) boxes.count)
          (λ k. get_or row.people k 0 * width_over (edges_of boxes) boxes.widths (x k) (y k)) (λ _. true) (λ _. true) row.count
          (λ k b. ap (λ (w : ℕ). get_or row.people k 0 * w) (widths_same boxes room boxes.few (x k) (y k)));
      cells = l.invariant.3
          ∙ ap (λ (i : ℕ). sum_to (λ k. count (test_of boxes (x k) (y k)) i) row.count) all
          ∙ sum_same (λ k. count (test_of boxes (x k) (y k)) boxes.count) (λ k. boxes_over (edges_of boxes) (x k) (y k))
          (λ _. true) (λ _. true) row.count (λ k b. boxes_same boxes room boxes.few (x k) (y k));
      narrow = λ j b. l.invariant.4 j (omega (arith, b, quarter boxes room boxes.few, all));
      few-mhz-pops = omega (arith, l.invariant.0, all, boxes.few);
      few-cells = omega (arith, l.invariant.1, all, boxes.few);
    }
