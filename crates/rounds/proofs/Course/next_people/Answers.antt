-- `rounds::Course::next_people`: the sum is within a u64. Assumes nothing.
use Prim.Native.Nat.{◌+◌}
use mathlib.Core.Path.{◌∙◌}
use native.Mathlib.Omega.{arith}
use Rattle.lists.proofs.Tests.{takes}
use Rattle.units.proofs.Laws.{exact}
use Rattle.rounds.proofs.Course.next_people.Goals as goal

pub returns-then-self : goal.returns-then-self
returns-then-self c =
    let a = c.args in
    c.plus.ensures ∙ exact (a.sum.0 + a.ring.0) (omega arith) ∙ takes _ c.if-self.true
