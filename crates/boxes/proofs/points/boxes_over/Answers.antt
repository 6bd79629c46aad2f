-- `boxes::points::boxes_over`: one box more. Assumes nothing.
use Rattle.std.proofs.Common.{◌≡◌, ◌≤◌, ◌+◌, ◌/◌, ◌∙◌, ap, refl, arith, length}
use mir.Facts.{to_z-of_z}
use Rattle.lists.specs.Sums.{flag, count}
use Rattle.boxes.specs.Boxes.{box_at, boxes_over}
use Rattle.boxes.proofs.RowLaws.{byte_flag, byte_most, count_next}
use Rattle.boxes.proofs.points.boxes_over.Goals as goal

pub loop-i-init : goal.loop-i-init
unfolding count
loop-i-init c = (omega arith, refl)

pub loop-i-preserved : goal.loop-i-preserved
loop-i-preserved c =
    let l = c.loop-i in
    let at = c.edges_at.ensures in
    let once : c.from-count.result ≤ 1 = byte_most c.covers.result c.from-count.ensures in
    let told = rw (at.south, at.north, at.west, at.east) at c.covers.ensures in (
      omega (arith, l.invariant.0, once),
      (λ i. l.invariant.1 i + (c.from-count.ensures ∙ byte_flag c.covers.result ∙ ap flag told) i) ∙ count_next _ l.i,
    )

pub returns : goal.returns
unfolding boxes_over
returns c =
    let a = c.args in
    let l = c.loop-i in
    let n = length a.edges.now / 4 in
    let all : l.i ≡ n = omega (arith, l.auto.i-end, c.loop-i-test.false) in
    let x = to_z-of_z c.ranges.latitude in
    let y = to_z-of_z c.ranges.longitude in (
      l.invariant.1 ∙ (λ k. count (box_at a.edges.now (x k) (y k) n) (all k)),
      omega (arith, l.invariant.0, all, c.requires),
    )
