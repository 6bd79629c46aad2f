-- `coverage::parts::holdings_from` meets its contract: one area a turn, with its c and its sum of cells. Assumes nothing.
use Rattle.register.specs.Licences.{in_force}
use Rattle.coverage.proofs.HoldingLaws.{Gathered}
use Rattle.coverage.proofs.parts.holdings_from.Given as goal

abbrev pub invariant-loop-k : goal.invariant-loop-k
invariant-loop-k l =
    Gathered l.map (in_force l.register.places) l.count l.first l.k l.at l.before l.areas l.stands
