-- `records::Record::check`: the first fault is that of the areas that are left. Assumes nothing.
use Rattle.records.proofs.FaultLaws.{Sound}
use Rattle.records.proofs.Record.check.Given as goal

abbrev pub invariant-loop-k : goal.invariant-loop-k
invariant-loop-k l = Sound l.k-items l.k-index l.before
