-- `register::Register::widths` meets its contract: an array of zeros, rewritten in place from its front. Assumes nothing.
use Rattle.std.proofs.Common.{ℕ, replicate, ◌∙◌, arith}
use Rattle.std.proofs.lemmas.List.{length-replicate}
use Rattle.lists.proofs.InPlace.{starts, turns, zeros-at}
use Rattle.register.proofs.GroundLaws.{width_at}
use Rattle.register.proofs.Register.widths.Goals as goal

pub loop-i-init : goal.loop-i-init
loop-i-init c = (omega arith, starts (width_at c.args.self.places) (replicate 64 0))

pub loop-i-preserved : goal.loop-i-preserved
loop-i-preserved c =
    let b = c.loop-i-test.true in
    let few = c.requires in
    let n = length-replicate {A = ℕ} 64 0 in
    (omega arith, turns c.loop-i.invariant.1 (omega arith) c.width.ensures)

pub returns : goal.returns
returns c =
    let w = c.loop-i.invariant.1 in
    let all = c.loop-i-test.false in
    let within = c.loop-i.invariant.0 in
    record {
      size = w.kept ∙ length-replicate {A = ℕ} 64 0;
      each = λ i b. w.done i (omega arith);
      rest = λ i b. w.rest i (omega arith) ∙ zeros-at 64 i;
    }
