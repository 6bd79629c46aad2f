-- `records::Record::grant`: of an accepted grant. Assumes nothing.
use Rattle.std.proofs.Common.{◌≡◌, List, Ok, ap, subst, ◌∙◌, rules}
use Rattle.map.specs.Format.{read_map}
use Rattle.register.specs.Licences.{in_force}
use Rattle.register.specs.Promises.{GrantStep, granted_step}
use Rattle.coverage.specs.declared.Holding.{Holding}
use Rattle.records.specs.Code.{plus_sums, moved_all}
use Rattle.records.proofs.HeldLaws.{map-accepts, grant-moves}
use Rattle.records.proofs.Record.grant.Goals as goal

pub returns : goal.returns
returns c =
    let a = c.args in
    let next = c.in_ok-register.register in
    let accepted : c.grant.result ≡ Ok next = search rules in
    let s : GrantStep a.register a.l (record { next = next; refusal = 0 }) =
    subst (λ r. GrantStep a.register a.l (granted_step a.register r)) accepted c.grant.ensures in
    let d = c.in_ok-held.ensures in
    map-accepts (read_map a.map.now) a.register a.self (GrantStep a.register a.l) _
    (in_force c.grant_step.result.next.places) c.in_ok-held.held d _ _ s
    (c.changed.ensures plus_sums (λ k s r p. p.2)
    ∙ ap (λ (held : List Holding). moved_all plus_sums held a.self) c.areas.ensures
    ∙ grant-moves c.empty.result a.l c.grant_step.result c.empty.ensures c.grant_step.ensures a.register next s
    _ d.areas d.each a.self)
