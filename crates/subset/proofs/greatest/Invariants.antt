-- `subset::greatest`: the sums from s on have no entry. Assumes nothing.
use Rattle.std.proofs.Common.{ℕ, ◌≡◌, ◌≤◌, get_or}
use Rattle.subset.proofs.greatest.Given as goal

abbrev pub invariant-loop-s : goal.invariant-loop-s
invariant-loop-s l = (t : ℕ) → l.s ≤ t → t ≤ l.slack → get_or l.table t 0 ≡ 65535
