-- `places::lay_out`: one row a turn, laid into the parts of the lists from its first place on. Assumes nothing.
use Rattle.boxes.specs.Boxes.{edges_of}
use Rattle.places.proofs.LayLaws.{LayingRows}
use Rattle.places.proofs.lay_out.Given as goal

abbrev pub invariant-loop-r : goal.invariant-loop-r
invariant-loop-r l =
    LayingRows l.map l.area.columns l.area.rows l.area.start l.always (edges_of l.boxes)
    (record { people = l.initial.people; cells = l.initial.cells; mask = l.initial.mask })
    (record { people = l.people; cells = l.cells; mask = l.mask }) l.from l.r
