-- `records::change_each`: the entries so far are changed. Assumes nothing.
use Rattle.std.proofs.Common.{◌≡◌}
use Rattle.lists.proofs.ArrayLoops.{Renewed}
use Rattle.coverage.specs.declared.CoverageSums.{CoverageSums as Sums}
use Rattle.records.specs.declared.Kept.{Kept}
use Rattle.records.specs.Code.{sums_in, moved}
use Rattle.records.proofs.change_each.Given as goal

abbrev pub invariant-loop-k : goal.invariant-loop-k
invariant-loop-k g l = (by : Sums → Kept → Kept) → ((k : Kept) (s : Sums) (r : Kept) → goal.F-post g l.change k s r → r ≡ by s k)
    → Renewed (λ k. moved by (sums_in k.number l.areas) k) l.initial.k-items l.k-index l.k-items
