-- `register::Register::struck` meets its contract: the loop takes over the places of the call sign. Assumes nothing.
use Rattle.std.proofs.Common.{◌≡◌, length, ap, arith}
use Rattle.register.specs.declared.Register.{Register}
use Rattle.register.specs.Rules.{limit}
use Rattle.register.proofs.StruckLaws.{gather-starts, gather-takes, gather-leaves, gather-ends}
use Rattle.register.proofs.Register.struck.Goals as goal
use Rattle.register.proofs.Register.struck.Goals.{then-p-call_sign, else-p-call_sign}

pub loop-p-init : goal.loop-p-init
loop-p-init c = gather-starts c.args.call_sign c.args.self.places c.empty-only.result.places c.empty-only.ensures

pub loop-p-preserved : goal.loop-p-preserved
loop-p-preserved c =
    let n : length c.args.self.places ≡ limit = omega arith in
    let g = c.loop-p.invariant in
    let b = c.loop-p-test.true in
    elim c.if-p-call_sign.branch [
      | then-p-call_sign w ↦ gather-takes n g b w.if-p-call_sign.true (ap (λ (r : Register). r.places) w.only-is) w.count-is
      | else-p-call_sign w ↦ gather-leaves n g b w.if-p-call_sign.false (ap (λ (r : Register). r.places) w.only-is) w.count-is
    ]

pub returns : goal.returns
returns c =
    let n : length c.args.self.places ≡ limit = omega arith in
    gather-ends n c.loop-p.invariant c.loop-p-test.false
