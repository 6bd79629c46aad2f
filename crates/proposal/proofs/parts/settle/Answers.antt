-- `proposal::parts::settle`: what each area is given, one area a turn. Assumes nothing.
use Rattle.std.proofs.Common.{ap, ◌∙◌}
use Rattle.proposal.specs.Promises.{gets_means}
use Rattle.proposal.proofs.GatherLaws.{blocks_at}
use Rattle.proposal.proofs.SettleLaws.{settle-partial, settle-other, settle-ends}
use Rattle.proposal.proofs.parts.settle.Goals as goal
use Rattle.proposal.proofs.parts.settle.Goals.{then-b-gt0, else-b-gt0}

pub loop-i-preserved : goal.loop-i-preserved
loop-i-preserved c =
    let b = c.requires in
    let x = c.blocks-b.result in
    let h = c.loop-i-test.true in
    let of = blocks_at b h c.blocks-b.ensures in
    elim c.if-b-gt0.branch [
      | then-b-gt0 w ↦
          settle-partial b c.loop-i.invariant h x of w.if-b-gt0.true c.if-b-gt0.gets c.if-b-gt0.e c.if-b-gt0.s
          (ap (λ g. gets_means g) w.gets-is ∙ w.gets_at-gets.ensures) (w.e-is ∙ w.saturating_sub-e.ensures) w.s-is
      | else-b-gt0 w ↦
          settle-other b c.loop-i.invariant h x of w.if-b-gt0.false c.if-b-gt0.gets c.if-b-gt0.e c.if-b-gt0.s
          (ap (λ g. gets_means g) w.gets-is) w.e-is w.s-is
    ]

pub returns : goal.returns
returns c = settle-ends c.loop-i.invariant c.loop-i-test.false
