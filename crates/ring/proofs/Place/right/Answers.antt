-- `ring::Place::right`: the column is the last if the next place starts a row. Assumes nothing.
use Prim.Native.Nat.{◌+◌}
use native.Mathlib.Omega.{arith}
use borrow.Author.Tests.{eq-eqb, ne_eqb}
use Rattle.ring.proofs.PlaceLaws.{ends_row}
use Rattle.ring.proofs.Place.right.Goals as goal

pub returns-then-self : goal.returns-then-self
unfolding Rattle.ring.specs.Ring.right
returns-then-self c =
    let place = c.args.self in
    rw (ends_row place.inside, ne_eqb (place.column + 1) place.grid.columns c.if-self.true) c.is_in.ensures

pub is_in-requires : goal.is_in-requires
is_in-requires c = omega (arith, c.args.self.inside.next c.if-self.true)

pub returns-else-self : goal.returns-else-self
unfolding Rattle.ring.specs.Ring.right
returns-else-self c =
    let place = c.args.self in
    rw (ends_row place.inside, eq-eqb (place.column + 1) place.grid.columns c.if-self.false)
