-- `boxes::rows::count_under`: one cell more. Assumes nothing.
use Rattle.std.proofs.Common.{◌≡◌, ◌≤◌, ◌∙◌, ap, arith, rules, pos, get_or}
use native.Mathlib.Nat.{mul-le-mul_left}
use mir.Syntax.{w32}
use mir.Val.{SFits}
use mir.Facts.{to_z-of_z}
use Rattle.lists.specs.Sums.{flag}
use Rattle.boxes.proofs.RowLaws.{to_start, to-next, to_end, byte_flag, byte_most}
use Rattle.boxes.proofs.rows.count_under.Goals as goal

pub loop-k-init : goal.loop-k-init
loop-k-init g c = (omega arith, omega arith, λ test h. to_start)

pub loop-k-preserved : goal.loop-k-preserved
loop-k-preserved g c =
    let row = c.args.row.now in
    let k = c.loop-k.k in
    let x : SFits w32 (get_or row.latitudes k (pos 0)) = search rules in
    let y : SFits w32 (get_or row.longitudes k (pos 0)) = search rules in
    let called = rw (to_z-of_z x, to_z-of_z y) at c.covers.ensures in
    let few = c.requires.few.each k c.loop-k-test.true in
    let once : c.from-covered.result ≤ 1 = byte_most c.covers.result c.from-covered.ensures in
    let most = mul-le-mul_left (get_or row.people k 0) once in (
      omega (arith, c.loop-k.invariant.0, few, most),
      omega (arith, c.loop-k.invariant.1, once),
      λ test h. to-next (c.loop-k.invariant.2 test h)
          (c.from-covered.ensures ∙ byte_flag c.covers.result ∙ ap flag (h _ _ _ called)),
    )

pub returns : goal.returns
returns g c =
    let all : c.loop-k.k ≡ c.args.row.now.count = omega (arith, c.loop-k.auto.k-end, c.loop-k-test.false) in
    λ test h. to_end (rw all at (c.loop-k.invariant.2 test h)) (rw all at c.loop-k.invariant.0) (rw all at c.loop-k.invariant.1)
    c.requires.few.few
