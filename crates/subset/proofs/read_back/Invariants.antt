-- `subset::read_back`: the members of what is left of the sum are still to be struck, and that sum falls. Assumes nothing.
use Rattle.subset.proofs.StrikeLaws.{Striking}
use Rattle.subset.specs.Table.{weight}
use Rattle.subset.proofs.read_back.Given as goal

abbrev pub invariant-loop-s : goal.invariant-loop-s
invariant-loop-s l = Striking (weight l.fn.mask l.people) l.k l.sum l.fn.mask l.mask l.s

abbrev pub decreases-loop-s : goal.decreases-loop-s
decreases-loop-s l = l.s
