-- `rounds::Area::people_of`: each turn adds the people of a place, or nothing. Assumes nothing.
use Prim.Native.Nat.{◌*◌}
use mathlib.Core.Path.{◌∙◌}
use Rattle.rounds.proofs.LimitLaws.{counted-starts, counted-adds, counted-skips}
use Rattle.rounds.proofs.Area.people_of.Goals as goal
use Rattle.rounds.proofs.Area.people_of.Goals.{then-bytes-i, else-bytes-i}

pub loop-i-init : goal.loop-i-init
loop-i-init c =
    let a = c.args in
    counted-starts a.bytes.now a.self.people.now (a.self.grid.rows * a.self.grid.columns) a.byte

pub loop-i-preserved : goal.loop-i-preserved
loop-i-preserved c =
    elim c.if-bytes-i.branch [
      | then-bytes-i w ↦
          counted-adds c.loop-i.invariant c.requires c.loop-i-test.true w.if-bytes-i.true (w.sum-is ∙ c.from-people.ensures)
      | else-bytes-i w ↦ counted-skips c.loop-i.invariant c.requires c.loop-i-test.true w.if-bytes-i.false w.sum-is
    ]
