-- `subset::add_place`: the sums from d + p on are renewed. Assumes nothing.
use Rattle.subset.proofs.FillLaws.{Adding}
use Rattle.subset.proofs.add_place.Given as goal

abbrev pub invariant-loop-d : goal.invariant-loop-d
invariant-loop-d l = Adding 65535 l.top l.p l.place l.initial.table l.table l.d
