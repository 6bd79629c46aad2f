-- `ring::mark_row`: the places before place c are marked. Assumes nothing.
use mathlib.Core.Bool.{false}
use lib.ListN.{get_or}
use Rattle.ring.proofs.MarkLaws.{Marks}
use Rattle.ring.proofs.mark_row.Given as goal

abbrev pub invariant-loop-c : goal.invariant-loop-c
invariant-loop-c l = Marks (λ j. get_or l.marks j false) l.fn.part l.part l.any l.c
