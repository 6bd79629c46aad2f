-- `records::Record::cancel`: of an accepted cancellation. Assumes nothing.
use Rattle.std.proofs.Common.{◌≡◌, List, Ok, ap, subst, ◌∙◌, rules}
use Rattle.map.specs.Format.{read_map}
use Rattle.register.specs.Licences.{in_force}
use Rattle.register.specs.Promises.{CancelStep, cancelled_step}
use Rattle.coverage.specs.declared.Holding.{Holding}
use Rattle.records.specs.Code.{minus_sums, moved_all}
use Rattle.records.proofs.HeldLaws.{map-accepts, cancel-moves}
use Rattle.records.proofs.Record.cancel.Goals as goal

pub returns : goal.returns
returns c =
    let a = c.args in
    let next = c.in_ok-register.register in
    let accepted : c.cancel.result ≡ Ok next = search rules in
    let s : CancelStep a.register a.call_sign (record { next = next; refusal = 0 }) =
    subst (λ r. CancelStep a.register a.call_sign (cancelled_step a.register r)) accepted c.cancel.ensures in
    let d = c.in_ok-held.ensures in
    map-accepts (read_map a.map.now) a.register a.self (CancelStep a.register a.call_sign) _
    (in_force c.struck.result.places) c.in_ok-held.held d _ _ s
    (c.changed.ensures minus_sums (λ k s r p. p.2)
    ∙ ap (λ (held : List Holding). moved_all minus_sums held a.self) c.areas.ensures
    ∙ cancel-moves a.register c.struck.result a.call_sign c.struck.ensures _ d.areas d.each a.self)
