-- `subset::fill`: k places are in the table. Assumes nothing.
use Rattle.subset.specs.Table.{weight}
use Rattle.subset.proofs.FillLaws.{Filling}
use Rattle.subset.proofs.fill.Given as goal

abbrev pub invariant-loop-k : goal.invariant-loop-k
invariant-loop-k l = Filling 65535 (weight l.mask l.people) l.n l.slack l.fn.table l.table l.top l.k
