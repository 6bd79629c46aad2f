-- `map::rows::sum_row`: at cell k, the cells before it are tested and their people summed. Assumes nothing.
use Rattle.std.proofs.Common.{◌≡◌, refl, ◌∙◌, arith}
use Rattle.map.proofs.RowLoops.{sum-starts, sum-turns, sum-ends}
use Rattle.map.proofs.rows.sum_row.Goals as goal

pub loop-k-init : goal.loop-k-init
loop-k-init c = let a = c.args in sum-starts a.s.now a.at

pub loop-k-preserved : goal.loop-k-preserved
loop-k-preserved c = sum-turns c.loop-k.invariant c.within-fine.ensures c.cell_at-cell.ensures refl

pub returns : goal.returns
returns c =
    let a = c.args in
    let all : c.loop-k.k ≡ a.n = omega (arith, c.loop-k-test.false, c.loop-k.auto.k-end) in
    c.then_some.ensures ∙ rw all at (sum-ends c.loop-k.invariant (omega (arith, all, c.requires)))
