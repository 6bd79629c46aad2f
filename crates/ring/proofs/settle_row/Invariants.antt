-- `ring::settle_row`: the marks before place b are settled. Assumes nothing.
use mathlib.Core.Bool.{cond}
use lib.Dec.{eqb}
use Rattle.lists.proofs.InPlace.{Rewritten}
use Rattle.ring.proofs.settle_row.Given as goal

abbrev pub invariant-loop-b : goal.invariant-loop-b
invariant-loop-b l = Rewritten (λ j b. cond (eqb b 2) l.to b) l.initial.b-items l.b-items l.b-index
