-- `register::Register::naming` meets its contract: two sums over the places, one place a turn. Assumes nothing.
use Rattle.register.specs.Licences.{full_width}
use Rattle.register.proofs.GroundLaws.{Counted, named, named_width}
use Rattle.register.proofs.Register.naming.Given as goal

abbrev pub invariant-loop-p : goal.invariant-loop-p
invariant-loop-p l =
    Counted 1 (named l.number) l.fn.self.places l.p-index l.licences
    × Counted full_width (named_width l.number) l.fn.self.places l.p-index l.width
