-- `search::leaf`: a choice is kept where its shortfall is above 0 and below the size, else its entry stays. Assumes nothing.
use native.Mathlib.Omega.{arith}
use Rattle.std.proofs.lemmas.Bool.Decides.{nat_tests}
use Rattle.search.specs.Search.{leaf_held}
use Rattle.search.proofs.leaf.Goals as goal

pub returns-then-left-cap : goal.returns-then-left-cap
unfolding leaf_held
returns-then-left-cap c = grind (arith, nat_tests)

pub returns-else-left-gt0 : goal.returns-else-left-gt0
unfolding leaf_held
returns-else-left-gt0 c = grind (arith, nat_tests)
