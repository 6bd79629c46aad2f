-- `places::lay_row`: one place a turn, each laid into the three lists. Assumes nothing.
use native.Mathlib.Omega.{arith}
use Rattle.places.proofs.LayLaws.{bits_inside, row-starts, place-turns, place-ends}
use Rattle.places.proofs.lay_row.Goals as goal

pub overflow_add-next-2 : goal.overflow_add-next-2
overflow_add-next-2 c =
    let a = c.args in
    record { fits = omega (arith, bits_inside a.map.now a.columns a.at c.requires.0) }

pub loop-j-init : goal.loop-j-init
loop-j-init c = row-starts c.requires.0

pub loop-j-preserved : goal.loop-j-preserved
loop-j-preserved c =
    let p = c.requires in
    place-turns c.loop-j.invariant c.show-after.result.0 c.show-after.result.1 c.loop-j-test.true
    (record { people = p.2; cells = p.3; mask = p.4 }) c.show-after.ensures

pub returns : goal.returns
returns c = place-ends c.loop-j.invariant c.loop-j-test.false
