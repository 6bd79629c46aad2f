-- `rounds::Area::people_of`: the sum is that of the places before i. Assumes nothing.
use Prim.Native.Nat.{◌*◌}
use Rattle.rounds.proofs.LimitLaws.{Counted}
use Rattle.rounds.proofs.Area.people_of.Given as goal

abbrev pub invariant-loop-i : goal.invariant-loop-i
invariant-loop-i l = Counted l.bytes l.self.people.now (l.self.grid.rows * l.self.grid.columns) l.byte l.sum l.i
