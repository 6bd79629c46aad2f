-- `subset::read_back`: the members of what is left of the sum are still to be struck, and that sum falls. Assumes nothing.
use native.Mathlib.Omega.{arith}
use lib.Dec.{lit<}
use Rattle.subset.proofs.StrikeLaws.{striking-starts, entry-turn, striking-ends}
use Rattle.subset.proofs.read_back.Goals as goal

pub loop-s-init : goal.loop-s-init
loop-s-init c = striking-starts c.requires.reached

pub bounds-mask-e : goal.bounds-mask-e
bounds-mask-e c =
    let t = entry-turn (lit< tt) c.requires c.loop-s.invariant c.loop-s.auto.mask c.loop-s-test.true c.from-e.ensures in
    omega arith

pub bounds-people-e : goal.bounds-people-e
bounds-people-e c =
    let t = entry-turn (lit< tt) c.requires c.loop-s.invariant c.loop-s.auto.mask c.loop-s-test.true c.from-e.ensures in
    omega arith

pub overflow_sub-s : goal.overflow_sub-s
overflow_sub-s c = (entry-turn (lit< tt) c.requires c.loop-s.invariant c.loop-s.auto.mask c.loop-s-test.true c.from-e.ensures).within

pub loop-s-smaller : goal.loop-s-smaller
loop-s-smaller c =
    let t = entry-turn (lit< tt) c.requires c.loop-s.invariant c.loop-s.auto.mask c.loop-s-test.true c.from-e.ensures in
    omega arith

pub loop-s-preserved : goal.loop-s-preserved
loop-s-preserved c = (entry-turn (lit< tt) c.requires c.loop-s.invariant c.loop-s.auto.mask c.loop-s-test.true c.from-e.ensures).next

pub returns : goal.returns
returns c = striking-ends c.loop-s.invariant c.loop-s-test.false
