-- `register::Register::release` meets its contract: the places of the call sign are freed one by one. Assumes nothing.
use Rattle.register.proofs.Laws.{Walked}
use Rattle.register.proofs.Register.release.Given as goal

abbrev pub invariant-loop-place : goal.invariant-loop-place
invariant-loop-place l = Walked l.call_sign l.fn.self.places l.place-items l.any l.place-index
