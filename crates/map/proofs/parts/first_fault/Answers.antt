-- `map::parts::first_fault`: one cell a turn, up to the one with a fault. Assumes nothing.
use Rattle.map.proofs.FieldLaws.{passed_on}
use Rattle.map.proofs.ShortLaws.{left-turns, left-stops, left-ends}
use Rattle.map.proofs.parts.first_fault.Goals as goal

pub returns-in_err-next : goal.returns-in_err-next
returns-in_err-next c f e =
    rw (passed_on c.from_residual.ensures.1) (left-stops c.args.s.now c.loop.invariant c.loop-test.true c.in_err-next.ensures f e)

pub loop-preserved : goal.loop-preserved
loop-preserved c =
    left-turns c.args.s.now c.loop.invariant c.loop-test.true c.in_ok-next.ensures

pub returns : goal.returns
returns c = left-ends c.args.s.now c.loop.invariant c.loop-test.false
