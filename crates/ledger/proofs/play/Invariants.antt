-- `ledger::play`: the invariant is `Playing`, a run from an empty register over the calls of the words so far, and that the words after
-- these calls' are left. Assumes nothing.
use Rattle.std.proofs.Common.{◌≡◌, ◌*◌, drop}
use Rattle.std.specs.Slice.Iter.{chunks_exact_rest, chunks_exact_size}
use Rattle.ledger.proofs.PlayLaws.{Playing}
use Rattle.ledger.proofs.play.Given as goal

abbrev pub invariant-loop-item : goal.invariant-loop-item
invariant-loop-item l = record {
  playing : Playing l.map l.calls l.initial.mask l.initial.table l.mask l.table l.register l.refused l.made;
  size : chunks_exact_size l.item-iterator ≡ 8;
  rest : chunks_exact_rest l.item-iterator ≡ drop (8 * l.made) l.calls;
}
