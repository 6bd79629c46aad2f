-- `register::Register::naming` meets its contract: two sums over the places, one place a turn. Assumes nothing.
use Rattle.std.proofs.Common.{◌≡◌, ℕ, ◌+◌, length, get_or, sym, ap, ◌∙◌, arith}
use native.Mathlib.Nat.{add-zero}
use Rattle.register.specs.Licences.{free_place}
use Rattle.register.specs.Rules.{limit}
use Rattle.register.proofs.GroundLaws.{counted-adds, passed-adds, count-turns, count-ends}
use Rattle.register.proofs.Register.naming.Goals as goal
use Rattle.register.proofs.Register.naming.Goals.{then-names, else-names}

pub loop-p-preserved : goal.loop-p-preserved
loop-p-preserved c =
    let v = c.loop-p.invariant in
    let t = c.loop-p-test.true in
    let n : length c.args.self.places ≡ limit = omega arith in
    let number = c.args.number in
    let p = get_or c.args.self.places c.loop-p.p-index free_place in
    elim c.if-names.branch [
      | then-names w ↦
          let named = counted-adds number p (sym c.names.ensures ∙ w.if-names.true) in
          let width = w.from-width.ensures ∙ w.width.ensures in (
            count-turns v.0 w.licences-is (omega arith) named.0 (omega arith),
            count-turns v.1 (w.width-is ∙ ap (λ (x : ℕ). c.loop-p.width + x) width) (omega arith) named.1 (omega arith),
          )
      | else-names w ↦
          let other = passed-adds number p (sym c.names.ensures ∙ w.if-names.false) in (
            count-turns v.0 (w.licences-is ∙ sym (add-zero c.loop-p.licences)) (omega arith) other.0 (omega arith),
            count-turns v.1 (w.width-is ∙ sym (add-zero c.loop-p.width)) (omega arith) other.1 (omega arith),
          )
    ]

pub returns : goal.returns
returns c =
    let v = c.loop-p.invariant in
    let n : length c.args.self.places ≡ limit = omega arith in
    let end = c.loop-p.auto.p-index-end in
    record {
      licences = count-ends v.0 (omega arith);
      width = count-ends v.1 (omega arith);
      few = omega (arith, v.0.small);
      most = omega (arith, v.1.small);
    }
