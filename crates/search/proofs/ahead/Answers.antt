-- `search::ahead`: its tests are the definition's, in order; the products across fit a u64 by the limits. Assumes nothing.
use native.Mathlib.Nat.{mul-le-mul}
use native.Mathlib.Omega.{arith}
use Rattle.std.proofs.lemmas.Bool.Decides.{nat_tests}
use Rattle.search.specs.Choice.{ahead}
use Rattle.search.proofs.Ranks.{far-apart, far-level}
use Rattle.search.proofs.ahead.Goals as goal

pub returns-then-a-b : goal.returns-then-a-b
unfolding ahead
returns-then-a-b c = far-apart c.args.a.far c.args.b.far _ c.if-a-b.true

pub returns-then-a-b-2 : goal.returns-then-a-b-2
unfolding ahead
returns-then-a-b-2 c = far-level c.args.a.far c.args.b.far _ _ c.if-a-b.false (grind (arith, nat_tests))

pub returns-then-b-a : goal.returns-then-b-a
unfolding ahead
returns-then-b-a c = far-level c.args.a.far c.args.b.far _ _ c.if-a-b.false (grind (arith, nat_tests))

pub overflow_mul-result : goal.overflow_mul-result
overflow_mul-result c =
    let p = c.requires in omega (arith, mul-le-mul p.0.white p.1.weight)

pub overflow_mul-result-2 : goal.overflow_mul-result-2
overflow_mul-result-2 c =
    let p = c.requires in omega (arith, mul-le-mul p.1.white p.0.weight)

pub returns : goal.returns
unfolding ahead
returns c = far-level c.args.a.far c.args.b.far _ _ c.if-a-b.false (grind (arith, nat_tests))
