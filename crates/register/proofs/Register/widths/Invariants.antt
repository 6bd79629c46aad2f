-- `register::Register::widths` meets its contract: an array of zeros, rewritten in place from its front. Assumes nothing.
use Rattle.std.proofs.Common.{◌≤◌, replicate}
use Rattle.lists.proofs.InPlace.{Rewritten}
use Rattle.register.proofs.GroundLaws.{width_at}
use Rattle.register.proofs.Register.widths.Given as goal

abbrev pub invariant-loop-i : goal.invariant-loop-i
invariant-loop-i l = (l.i ≤ l.count) × Rewritten (width_at l.self.places) (replicate 64 0) l.widths l.i
