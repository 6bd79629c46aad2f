-- `rounds::Course::rounds`: the invariant is `Going`, and each round that is made leaves less (`falls`). Assumes nothing.
use lib.ListN.{length}
use Rattle.ring.proofs.RingLaws.{fits_in}
use Rattle.rounds.specs.Promises.{part_of}
use Rattle.rounds.specs.Code.{people_with}
use Rattle.rounds.proofs.RoundLaws.{going-starts, going-within, going_less, going-turns, going-equal, going-last}
use Rattle.rounds.proofs.Course.rounds.Goals as goal

pub loop-people-init : goal.loop-people-init
unfolding people_with
loop-people-init c =
    let a = c.args in
    going-starts (part_of a.self.area) a.self.share.0 a.self.grow a.mask.now a.start.0 c.requires.within.plain c.requires.start_value

pub round-requires-clause-within : goal.round-requires-clause-within
round-requires-clause-within c = going-within c.requires.within c.loop-people.invariant

pub round-requires-clause-sum_value : goal.round-requires-clause-sum_value
unfolding people_with
round-requires-clause-sum_value c = c.loop-people.invariant.people

pub loop-people-smaller : goal.loop-people-smaller
loop-people-smaller c =
    let a = c.args in
    let w = a.self.within in
    let grid = a.self.area.grid in
    going_less (part_of a.self.area) a.self.share.0 a.self.grow c.loop-people.mask c.round.new.mask c.in-Next.people c.in-Next.ensures
    w.above w.below (fits_in grid.rows grid.columns (length a.mask.now) c.requires.within.masked).some

pub loop-people-preserved : goal.loop-people-preserved
loop-people-preserved c =
    let a = c.args in
    let l = c.loop-people in
    let w = a.self.within in
    let grid = a.self.area.grid in
    going-turns (part_of a.self.area) a.self.share.0 a.self.grow l.mask c.round.new.mask c.in-Next.people c.in-Next.ensures
    w.above w.below (fits_in grid.rows grid.columns (length a.mask.now) c.requires.within.masked).some
    a.mask.now l.sum.0 l.invariant c.round.auto.mask

pub returns-in-LastRing : goal.returns-in-LastRing
returns-in-LastRing c =
    let a = c.args in
    let l = c.loop-people in
    going-last (part_of a.self.area) a.self.share.0 a.self.grow l.mask c.round.new.mask a.mask.now l.sum.0 l.invariant c.requires.grow_value
    c.in-LastRing.outer c.in-LastRing.ensures

pub returns-in-Share : goal.returns-in-Share
returns-in-Share c =
    let a = c.args in
    let l = c.loop-people in
    going-equal (part_of a.self.area) a.self.share.0 a.self.grow l.mask c.round.new.mask a.mask.now l.sum.0 l.invariant c.requires.grow_value
    c.in-Share.ensures
