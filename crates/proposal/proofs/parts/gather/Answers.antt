-- `proposal::parts::gather`: the partial areas, one area a turn. Assumes nothing.
use Rattle.std.proofs.Common.{ℕ, set, ap, ◌∙◌, arith}
use Rattle.units.specs.declared.Weighted.{Weighted}
use Rattle.proposal.proofs.GatherLaws.{blocks_at, gather-takes, gather-leaves, gather-as, gather-ends}
use Rattle.proposal.proofs.parts.gather.Goals as goal
use Rattle.proposal.proofs.parts.gather.Goals.{then-b-gt0, else-b-gt0}

pub loop-a-preserved : goal.loop-a-preserved
loop-a-preserved c =
    let b = c.requires in
    let x = c.blocks-b.result in
    let h = c.loop-a-test.true in
    let of = blocks_at b h c.blocks-b.ensures in
    elim c.if-b-gt0.branch [
      | then-b-gt0 w ↦
          gather-as (gather-takes b c.loop-a.invariant h x of w.if-b-gt0.true w.plus-target.ensures)
          w.n-is (ap (λ (t : Weighted). t.0) w.target-is)
          (w.partials-is ∙ ap (λ (k : ℕ). set c.loop-a.partials c.loop-a.n (record { size = x.size; weight = k })) w.from.ensures)
      | else-b-gt0 w ↦
          gather-as (gather-leaves b c.loop-a.invariant h x of w.if-b-gt0.false)
          w.n-is (ap (λ (t : Weighted). t.0) w.target-is) w.partials-is
    ]

pub returns : goal.returns
returns c = gather-ends c.requires c.loop-a.invariant (omega arith)
