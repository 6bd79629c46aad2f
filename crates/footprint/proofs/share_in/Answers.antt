-- `footprint::share_in`: the place of the first area that gets a share. Assumes nothing.
use Rattle.footprint.proofs.TurnLaws.{look-starts, look-turns, look-finds, look-ends}
use Rattle.footprint.proofs.share_in.Goals as goal

pub loop-i-init : goal.loop-i-init
loop-i-init c = look-starts _

pub returns-in-Share : goal.returns-in-Share
returns-in-Share c = (look-finds c.loop-i.invariant c.loop-i-test.true c.in-Share.share c.in-Share.is, c.loop-i-test.true)

pub loop-i-preserved : goal.loop-i-preserved
loop-i-preserved c = look-turns c.loop-i.invariant c.loop-i-test.true c.in_default.not-Share

pub returns : goal.returns
returns c = (look-ends c.loop-i.invariant c.loop-i-test.false, tt)
