-- `places::lay_row`: one place a turn, each laid into the three lists. Assumes nothing.
use Rattle.boxes.specs.Boxes.{edges_of}
use Rattle.places.proofs.LayLaws.{LayingRow}
use Rattle.places.proofs.lay_row.Given as goal

abbrev pub invariant-loop-j : goal.invariant-loop-j
invariant-loop-j l =
    LayingRow l.map l.columns l.at l.always (edges_of l.boxes)
    (record { people = l.initial.people; cells = l.initial.cells; mask = l.initial.mask })
    (record { people = l.people; cells = l.cells; mask = l.mask }) l.next l.j
