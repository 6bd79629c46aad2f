-- `proposal::propose`: by whether the map is accepted. Assumes nothing.
use Rattle.std.proofs.Common.{subst, sym}
use Rattle.std.proofs.lemmas.Result.{err_from_is_err_and}
use Rattle.map.specs.Format.{read_map}
use Rattle.register.specs.Licences.{in_force}
use Rattle.proposal.specs.Code.{Bounded}
use Rattle.proposal.proofs.MapLaws.{on-refused, bounded, on-accepted}
use Rattle.proposal.proofs.propose.Goals as goal

pub returns-in_err-held : goal.returns-in_err-held
returns-in_err-held c =
    let a = c.args in
    let p = err_from_is_err_and c.from_residual.result c.from_residual.ensures.1 in
    rw (p.1, p.2) (on-refused (in_force a.register.places) a.draw (read_map a.map.now) _ c.in_err-held.ensures)

pub propose_from-requires : goal.propose_from-requires
propose_from-requires c =
    let a = c.args in
    subst Bounded (sym c.areas.ensures) (bounded a.map.now (in_force a.register.places) c.in_ok-held.ensures)

pub returns : goal.returns
returns c =
    let a = c.args in
    on-accepted a.map.now (in_force a.register.places) c.in_ok-held.ensures c.areas.ensures a.draw _ c.propose_from.ensures
