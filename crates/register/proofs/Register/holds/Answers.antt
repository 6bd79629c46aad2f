-- `register::Register::holds` meets its contract: some place has the call sign. Assumes nothing.
use Rattle.std.proofs.Common.{ℕ, eqb, sym, ap, ◌∙◌, rules, tests}
use borrow.Author.Tests.{eq-eqb}
use Rattle.std.proofs.lemmas.Iterator.{YieldsList-from_slice}
use Rattle.std.proofs.lemmas.Iterator.Search.{any_from_yields_List}
use Rattle.register.specs.declared.FlatLicence.{FlatLicence}
use Rattle.register.specs.Licences.{in_force, held}
use Rattle.register.proofs.Laws.{held-in-force, zero-not-held, stands-any}
use Rattle.register.proofs.Register.holds.Goals as goal

pub returns-then-call_sign-ne0 : goal.returns-then-call_sign-ne0
returns-then-call_sign-ne0 c =
    let a = c.args in
    let ps = a.self.now.places in
    any_from_yields_List (λ (p : FlatLicence). eqb p.call_sign a.call_sign) _ _ _ c.any.ensures.ran (YieldsList-from_slice ps cc)
    (λ x b q k. search (rules, tests))
    ∙ stands-any a.call_sign ps ∙ sym (held-in-force a.call_sign ps c.if-call_sign-ne0.true)

pub returns-else-call_sign-ne0 : goal.returns-else-call_sign-ne0
returns-else-call_sign-ne0 c =
    let ps = c.args.self.now.places in
    let z = c.if-call_sign-ne0.false in
    simp (eq-eqb c.args.call_sign 0 z) (sym (ap (λ (s : ℕ). held s (in_force ps)) z ∙ zero-not-held ps))
