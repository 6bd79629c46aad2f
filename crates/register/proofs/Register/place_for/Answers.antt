-- `register::Register::place_for` meets its contract: the refusals in their order, and the first free place. Assumes nothing.
use Rattle.std.proofs.Common.{◌≡◌, length, sym, subst, ◌∙◌, rules, tests, arith}
use mathlib.Core.Logic.{◌≢◌}
use Rattle.std.proofs.lemmas.Iterator.{YieldsList-from_slice, IsFirst-from_position}
use Rattle.register.specs.declared.FlatLicence.{FlatLicence}
use Rattle.register.specs.Licences.{in_force}
use Rattle.register.specs.Rules.{limit}
use Rattle.register.specs.Promises.{PlaceFound}
use Rattle.register.proofs.Laws.{rule-ill-formed, rule-in-force, place-found}
use Rattle.register.proofs.Register.place_for.Goals as goal

pub returns-then-not-well_formed : goal.returns-then-not-well_formed
returns-then-not-well_formed c =
    rule-ill-formed (in_force c.args.self.now.places) c.args.l (sym c.well_formed-2.ensures ∙ c.if-not-well_formed.true)

pub returns-then-holds : goal.returns-then-holds
returns-then-holds c =
    rule-in-force (in_force c.args.self.now.places) c.args.l (sym c.well_formed-2.ensures ∙ c.if-not-well_formed.false)
    (sym c.holds.ensures ∙ c.if-holds.true)

pub returns : goal.returns
returns c =
    let ps = c.args.self.now.places in
    let n : length ps ≡ limit = omega arith in
    let found = IsFirst-from_position _ _ c.position.result (λ (p : FlatLicence). p.call_sign ≡ 0) (λ (p : FlatLicence). p.call_sign ≢ 0)
    c.position.ensures.ran (YieldsList-from_slice ps cc)
    (λ x q k. search (rules, tests)) (λ x q k. search (rules, tests)) in
    subst (λ r. PlaceFound ps c.args.l r) (sym c.ok_or.ensures.value)
    (place-found ps c.args.l n (sym c.well_formed-2.ensures ∙ c.if-not-well_formed.false) (sym c.holds.ensures ∙ c.if-holds.false)
    c.position.result found)
