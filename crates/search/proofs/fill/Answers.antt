-- `search::fill`: after i areas entry 0 and the i entries after it are filled. Assumes nothing.
use Rattle.search.proofs.Tables.{fill-starts, fill-turns, fill-ends}
use Rattle.search.proofs.fill.Goals as goal

pub loop-i-init : goal.loop-i-init
loop-i-init c = fill-starts c.args.partials.now c.args.table.now c.requires

pub loop-i-preserved : goal.loop-i-preserved
loop-i-preserved c = fill-turns c.args.partials.now c.loop-i.table c.loop-i.i c.loop-i.invariant c.loop-i-test.true

pub returns : goal.returns
returns c = fill-ends _ _ _ c.loop-i.invariant c.loop-i-test.false
