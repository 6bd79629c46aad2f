-- `search::keep`: the derived order is less white space, or as much and a smaller set number. Assumes nothing.
use native.Mathlib.Omega.{arith}
use Rattle.std.proofs.lemmas.Bool.Decides.{nat_tests}
use Rattle.search.specs.Search.{lesser}
use Rattle.search.proofs.keep.Goals as goal

pub returns-then-lt : goal.returns-then-lt
unfolding lesser
returns-then-lt c = grind (arith, nat_tests)

pub returns-else-lt : goal.returns-else-lt
unfolding lesser
returns-else-lt c = grind (arith, nat_tests)
