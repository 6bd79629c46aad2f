-- `register::Register::free` meets its contract: by whether the call sign is in force. Assumes nothing.
use Rattle.std.proofs.Common.{sym, ap, ◌∙◌}
use Rattle.register.specs.declared.Register.{Register}
use Rattle.register.specs.Licences.{in_force, held}
use Rattle.register.proofs.Laws.{zero-not-held, release-not-held}
use Rattle.register.proofs.StepLaws.{cancel-refused, cancel-done}
use Rattle.register.proofs.Register.free.Goals as goal
use Rattle.register.proofs.Register.free.Goals.{
  then-call_sign-eq0-via-then-call_sign-eq0,
  then-call_sign-eq0-via-else-call_sign-eq0+then-not-release,
}

pub returns-then-call_sign-eq0 : goal.returns-then-call_sign-eq0
returns-then-call_sign-eq0 c =
    let old = c.args.self.now in
    let s = c.args.call_sign in
    let v = c.then-call_sign-eq0 in
    elim v.branch [
      | then-call_sign-eq0-via-then-call_sign-eq0 w ↦
          cancel-refused old s (ap (λ k. held k (in_force old.places)) w.if-call_sign-eq0.true ∙ zero-not-held old.places) v.self
          (ap (λ (r : Register). r.places) w.self-is)
      | then-call_sign-eq0-via-else-call_sign-eq0+then-not-release w ↦
          let not-held = sym w.release.ensures.told ∙ w.if-not-release.true in
          cancel-refused old s not-held v.self
          (ap (λ (r : Register). r.places) w.self-is ∙ w.release.ensures.freed
          ∙ release-not-held s old.places w.if-call_sign-eq0.false not-held)
    ]

pub returns : goal.returns
returns c =
    cancel-done c.args.self.now c.args.call_sign (sym c.release.ensures.told ∙ c.if-not-release.false) c.release.new.self
    c.release.ensures.freed
