-- `map::parts::walk`: the walk over the rows, one row a turn. Assumes nothing.
use Rattle.boxes.specs.Boxes.{edges_of}
use Rattle.map.proofs.LoopLaws.{Walk, grid-adds}
use Rattle.map.specs.Format.{read_row}
use Rattle.map.specs.Counting.{row_counts, grid_counts}
use Rattle.map.proofs.parts.walk.Given as goal

abbrev pub invariant-loop : goal.invariant-loop
invariant-loop l =
    Walk (λ _ a. read_row l.s l.h.columns a) (row_counts (edges_of l.boxes) l.boxes.widths)
    (grid_counts (edges_of l.boxes) l.boxes.widths) (grid-adds (edges_of l.boxes) l.boxes.widths) 256 l.h.rows l.start l.counter l.at l.sum
