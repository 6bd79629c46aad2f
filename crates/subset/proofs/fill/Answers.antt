-- `subset::fill`: k places are in the table. Assumes nothing.
use lib.Dec.{lit<}
use Rattle.subset.specs.Table.{weight}
use Rattle.subset.proofs.FillLaws.{filling-starts, filling-turns, filling-stops, filling-ends}
use Rattle.subset.proofs.fill.Goals as goal

pub loop-k-init : goal.loop-k-init
loop-k-init c = filling-starts (c.clear.ensures (weight c.args.mask.now c.args.people.now))

pub returns-then-table-slack : goal.returns-then-table-slack
returns-then-table-slack c = filling-stops (lit< tt) c.requires.few c.loop-k.invariant c.if-table-slack.true

pub loop-k-preserved : goal.loop-k-preserved
loop-k-preserved c =
    filling-turns (lit< tt) c.requires.few c.loop-k.invariant c.loop-k-test.true c.weigh-p.ensures c.upto-top.ensures c.add_place.ensures

pub returns : goal.returns
returns c = filling-ends c.loop-k.invariant c.loop-k-test.false
