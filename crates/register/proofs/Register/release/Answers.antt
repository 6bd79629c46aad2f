-- `register::Register::release` meets its contract: the places of the call sign are freed one by one. Assumes nothing.
use Rattle.std.proofs.Common.{◌≡◌, length, sym, ◌∙◌, arith}
use lib.Seq.{set-get_or}
use Rattle.register.specs.Licences.{free_place}
use Rattle.register.specs.Rules.{limit}
use Rattle.register.proofs.Laws.{walk-starts, walk-frees, walk-leaves, walk-ends, held-in-force}
use Rattle.register.proofs.Register.release.Goals as goal
use Rattle.register.proofs.Register.release.Goals.{then-place-call_sign, else-place-call_sign}

pub loop-place-init : goal.loop-place-init
loop-place-init c = walk-starts c.args.call_sign c.args.self.now.places

pub loop-place-preserved : goal.loop-place-preserved
loop-place-preserved c =
    let w = c.loop-place.invariant in
    let n : length c.args.self.now.places ≡ limit = omega arith in
    elim c.if-place-call_sign.branch [
      | then-place-call_sign b ↦ rw (b.place-items-is, b.any-is) (walk-frees w (omega arith) b.if-place-call_sign.true)
      | else-place-call_sign b ↦
          rw (b.place-items-is ∙ set-get_or c.loop-place.place-items c.loop-place.place-index free_place, b.any-is)
          (walk-leaves w (omega arith) b.if-place-call_sign.false)
    ]

pub returns : goal.returns
returns c =
    let old = c.args.self.now.places in
    let n : length old ≡ limit = omega arith in
    let all = walk-ends c.loop-place.invariant (omega arith) in
    record { told = all.0 ∙ sym (held-in-force c.args.call_sign old (λ z. absurd (omega (arith, c.requires)))); freed = all.1 }
