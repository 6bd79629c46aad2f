-- `boxes::rows::most`: one more is joined. Assumes nothing.
use Rattle.std.proofs.Common.{refl, get_or, max, ap, ◌∙◌}
use Rattle.boxes.specs.Rows.{join_to}
use Rattle.boxes.proofs.OrderLaws.{join-next}
use Rattle.boxes.proofs.rows.most.Goals as goal

pub loop-held-init : goal.loop-held-init
unfolding join_to
loop-held-init c = refl

pub loop-held-preserved : goal.loop-held-preserved
loop-held-preserved c =
    let l = c.loop-held in
    c.max-most.ensures ∙ ap (λ m. max m (get_or c.args.people.now l.held-index 0)) l.invariant
    ∙ join-next max 0 (λ k. get_or c.args.people.now k 0) l.held-index
