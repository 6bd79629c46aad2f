-- `ring::mark_row`: each turn marks the place or leaves it. Assumes nothing.
use mathlib.Core.Bool.{false}
use native.Mathlib.Omega.{arith}
use lib.ListN.{length, get_or}
use Rattle.std.proofs.lemmas.List.{get_or_past}
use Rattle.ring.proofs.MarkLaws.{marks-start, marks-yes, marks-no, marks-end}
use Rattle.ring.proofs.mark_row.Goals.{then-mark, else-mark}
use Rattle.ring.proofs.mark_row.Goals as goal

pub loop-c-init : goal.loop-c-init
loop-c-init c = marks-start (λ j. get_or c.args.marks.now j false) c.args.part.now

pub loop-c-preserved : goal.loop-c-preserved
loop-c-preserved c =
    let l = c.loop-c in
    elim c.if-mark.branch [
      | then-mark w ↦ rw (w.part-is, w.any-is) (marks-yes _ l.invariant (omega arith) w.if-mark.true)
      | else-mark w ↦ rw (w.part-is, w.any-is) (marks-no _ l.invariant w.if-mark.false)
    ]

pub returns-clause-told : goal.returns-clause-told
returns-clause-told c =
    (marks-end _ c.loop-c.invariant (length c.args.marks.now) (omega arith) (λ j h. get_or_past c.args.marks.now j false h)).0

pub returns-clause-bytes : goal.returns-clause-bytes
returns-clause-bytes c =
    (marks-end _ c.loop-c.invariant (length c.args.marks.now) (omega arith) (λ j h. get_or_past c.args.marks.now j false h)).1
