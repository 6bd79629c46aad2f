-- `proposal::parts::gather`: the partial areas, one area a turn. Assumes nothing.
use Rattle.proposal.proofs.GatherLaws.{Gathering}
use Rattle.proposal.proofs.parts.gather.Given as goal

abbrev pub invariant-loop-a : goal.invariant-loop-a
invariant-loop-a l = Gathering l.areas l.a-index l.n l.target.0 l.partials
