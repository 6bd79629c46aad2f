-- `boxes::Boxes::covering`: at box i, the boxes before it are counted. Assumes nothing.
use Rattle.std.proofs.Common.{◌≡◌, ◌≤◌}
use Rattle.lists.specs.Sums.{count}
use Rattle.boxes.proofs.BoxLaws.{test_of}
use Rattle.boxes.proofs.Boxes.covering.Given as goal

abbrev pub invariant-loop-i : goal.invariant-loop-i
invariant-loop-i l = (l.covering ≤ l.i) × (l.covering ≡ count (test_of l.self l.latitude l.longitude) l.i)
