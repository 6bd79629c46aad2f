-- `map::parts::areas`: the search, one area a turn. Assumes nothing.
use Rattle.boxes.specs.Boxes.{edges_of}
use Rattle.map.proofs.AreaLaws.{Search}
use Rattle.map.proofs.parts.areas.Given as goal

abbrev pub invariant-loop : goal.invariant-loop
invariant-loop l =
    Search l.map l.number (edges_of l.boxes) l.boxes.widths l.count l.first l.counter l.at l.before l.found
