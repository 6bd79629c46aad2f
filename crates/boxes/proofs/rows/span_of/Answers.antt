-- `boxes::rows::span_of`: one more is joined. Assumes nothing.
use Rattle.std.proofs.Common.{refl, get_or, ℕ, ℤ, pos, negsuc, rules}
use mir.Syntax.{w32}
use mir.Val.{SFits}
use Rattle.std.specs.Int.{int_min, int_max}
use Rattle.boxes.specs.Rows.{join_to}
use Rattle.boxes.proofs.SignedLaws.{plain-next}
use Rattle.boxes.proofs.rows.span_of.Goals as goal

pub loop-value-init : goal.loop-value-init
unfolding join_to
loop-value-init c = (refl, refl)

pub loop-value-preserved : goal.loop-value-preserved
loop-value-preserved c =
    let l = c.loop-value in
    let low = c.min-least in
    let high = c.max-greatest in
    let value : ℕ → ℤ = λ k. get_or c.args.values.now k (pos 0) in
    let fits : SFits w32 (value l.value-index) = search rules in (
      plain-next int_min (pos 2_147_483_647) value l.value-index l.invariant.0 low.ensures.value (record { sfits = low.type_inv }) fits,
      plain-next int_max (negsuc 2_147_483_647) value l.value-index l.invariant.1 high.ensures.value (record { sfits = high.type_inv }) fits,
    )
