-- `rounds::Course::rounds`: the invariant is `Going`, and each round that is made leaves less (`falls`). Assumes nothing.
use Prim.Native.Nat.{◌*◌}
use Rattle.ring.specs.Ring.{shown}
use Rattle.rounds.specs.Promises.{part_of}
use Rattle.rounds.proofs.Rounds.{remaining}
use Rattle.rounds.proofs.RoundLaws.{Going}
use Rattle.rounds.proofs.Course.rounds.Given as goal

abbrev pub invariant-loop-people : goal.invariant-loop-people
invariant-loop-people l = Going (part_of l.self.area) l.self.share.0 l.self.grow l.initial.mask l.mask l.sum.0

abbrev pub decreases-loop-people : goal.decreases-loop-people
decreases-loop-people l = remaining l.self.grow (shown l.mask) (l.self.area.grid.rows * l.self.area.grid.columns)
