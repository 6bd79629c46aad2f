-- `boxes::points::boxes_over`: at box i, the boxes before it are counted. Assumes nothing.
use Rattle.std.proofs.Common.{◌≡◌, ◌≤◌, ◌/◌, length}
use Rattle.lists.specs.Sums.{count}
use Rattle.boxes.specs.Boxes.{box_at}
use Rattle.boxes.proofs.points.boxes_over.Given as goal

abbrev pub invariant-loop-i : goal.invariant-loop-i
invariant-loop-i l = (l.count ≤ l.i) × (l.count ≡ count (box_at l.edges l.latitude l.longitude (length l.edges / 4)) l.i)
