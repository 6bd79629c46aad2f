-- `boxes::Boxes::covering`: one box more. Assumes nothing.
use Rattle.std.proofs.Common.{◌≡◌, ◌≤◌, ◌+◌, ◌∙◌, ap, refl, arith, length, rules}
use mir.Facts.{to_z-of_z}
use Rattle.lists.specs.Sums.{flag, count}
use Rattle.boxes.proofs.BoxLaws.{boxes_same}
use Rattle.boxes.proofs.RowLaws.{byte_flag, byte_most, count_next}
use Rattle.boxes.proofs.Boxes.covering.Goals as goal

pub loop-i-init : goal.loop-i-init
unfolding count
loop-i-init c = (omega arith, refl)

pub loop-i-preserved : goal.loop-i-preserved
loop-i-preserved c =
    let l = c.loop-i in
    let at = c.at.ensures in
    let once : c.from-covering.result ≤ 1 = byte_most c.covers.result c.from-covering.ensures in
    let told = rw (at.south, at.north, at.west, at.east) at c.covers.ensures in (
      omega (arith, l.invariant.0, once),
      (λ i. l.invariant.1 i + (c.from-covering.ensures ∙ byte_flag c.covers.result ∙ ap flag told) i) ∙ count_next _ l.i,
    )

pub returns : goal.returns
returns c =
    let boxes = c.args.self.now in
    let l = c.loop-i in
    let all : l.i ≡ boxes.count = omega (arith, l.auto.i-end, c.loop-i-test.false) in
    let room : length boxes.edges ≡ 256 = search rules in (
      rw (to_z-of_z c.ranges.latitude, to_z-of_z c.ranges.longitude, all) at l.invariant.1
          ∙ boxes_same boxes room boxes.few c.args.latitude c.args.longitude,
      omega (arith, l.invariant.0, all, boxes.few),
    )
