-- `map::parts::walk`: the walk over the rows, one row a turn. Assumes nothing.
use Rattle.std.proofs.Common.{ap, ◌∙◌, arith}
use Rattle.map.proofs.FieldLaws.{passed_on}
use Rattle.map.proofs.LoopLaws.{walk-stops, walk-turns, walk_ends, small-more}
use Rattle.map.specs.Answers.{read_means}
use Rattle.map.proofs.parts.walk.Goals as goal

pub returns-in_err-counts : goal.returns-in_err-counts
returns-in_err-counts c =
    ap read_means (passed_on c.from_residual.ensures.1) ∙ walk-stops c.loop.invariant c.loop-test.true c.in_err-counts.ensures.value

pub loop-preserved : goal.loop-preserved
loop-preserved c =
    let fits = c.args.h.fits in
    walk-turns c.loop.invariant c.loop-test.true (omega (arith, fits)) c.in_ok-counts.ensures.value
    (small-more fits.1 c.in_ok-counts.ensures.small) c.plus-sum.ensures

pub returns : goal.returns
returns c = walk_ends c.loop.invariant c.loop-test.false
