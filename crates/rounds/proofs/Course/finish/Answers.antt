-- `rounds::Course::finish`: wiped, or left out and settled. Assumes nothing.
use Prim.Native.Nat.{ℕ, ◌*◌, ◌≤◌, ◌<◌}
use mathlib.Core.Path.{◌≡◌, refl, ◌∙◌}
use mathlib.Core.Bool.{true}
use native.Mathlib.Omega.{arith}
use lib.ListN.{length}
use borrow.Author.Tests.{lt-ltb, le-leb}
use Rattle.lists.proofs.Tests.{both}
use Rattle.subset.specs.Marked.{roomy}
use Rattle.ring.proofs.RingLaws.{fits_in}
use Rattle.rounds.proofs.MakeLaws.{finish-short, finish-done}
use Rattle.rounds.proofs.Course.finish.Goals as goal

pub returns-then-table-slack : goal.returns-then-table-slack
returns-then-table-slack c =
    let a = c.args in
    let m = a.self.area in
    finish-short m.people.now (m.grid.rows * m.grid.columns) a.slack a.mask.now c.wipe.new.mask a.table.now a.table.now
    c.if-table-slack.true (λ i. c.wipe.ensures i ∙ rw c.requires.masked) refl

-- the table, the mask and the people have room for the choice
has-room : (mask people n slack table : ℕ) → slack < table → n ≤ 65535 → n ≤ mask → n ≤ people → roomy mask people n slack table ≡ true
unfolding roomy
has-room mask people n slack table t l m p =
    both (both (both (lt-ltb slack table t) (le-leb n 65535 l)) (le-leb n mask m)) (le-leb n people p)

pub returns : goal.returns
returns c =
    let a = c.args in
    let m = a.self.area in
    let w = a.self.within in
    let p = c.requires in
    let l = c.leave_out in
    let h = c.if-table-slack.false in
    let n = m.grid.rows * m.grid.columns in
    finish-done m.people.now n a.slack a.mask.now c.settle.new.mask a.table.now l.new.table
    h p.marked l.new.mask l.ensures
    (has-room (length a.mask.now) (length m.people.now) n a.slack (length a.table.now) (omega arith) w.numbered
    (fits_in m.grid.rows m.grid.columns (length a.mask.now) p.masked).long w.counted)
    (λ i. c.settle.ensures i ∙ rw (l.auto.mask, p.masked))
