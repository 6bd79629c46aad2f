-- `register::Register::struck` meets its contract: the loop takes over the places of the call sign. Assumes nothing.
use Rattle.register.proofs.StruckLaws.{Gathered}
use Rattle.register.proofs.Register.struck.Given as goal

abbrev pub invariant-loop-p : goal.invariant-loop-p
invariant-loop-p l = Gathered l.call_sign l.fn.self.places l.only.places l.count l.p-index
