-- `register::Register::edges` meets its contract: the four edges of a box a turn. Assumes nothing.
use Rattle.register.proofs.GroundLaws.{Filled}
use Rattle.register.proofs.Register.edges.Given as goal

abbrev pub invariant-loop-i : goal.invariant-loop-i
invariant-loop-i l = Filled l.self.places l.count l.i l.edges
