-- `proposal::parts::settle`: what each area is given, one area a turn. Assumes nothing.
use Rattle.search.specs.Proposal.{kind_number}
use Rattle.proposal.proofs.SettleLaws.{Settling}
use Rattle.proposal.proofs.parts.settle.Given as goal

abbrev pub invariant-loop-i : goal.invariant-loop-i
invariant-loop-i l = Settling l.areas (kind_number l.kind) l.share.0 l.entry l.number l.i l.e l.s l.given
