-- `footprint::footprint`: the holdings of the map, the proposal from them and its partial area lead to the footprint. Assumes nothing.
use Rattle.std.proofs.Common.{List, Ok, Err, refl, sym, subst, length}
use Rattle.std.proofs.lemmas.Result.{err_from_is_err_and}
use Rattle.map.specs.Answers.{fault_number}
use Rattle.register.specs.Licences.{in_force}
use Rattle.coverage.specs.declared.Holding.{Holding}
use Rattle.proposal.specs.Answer.{proposal}
use Rattle.proposal.specs.Code.{Bounded}
use Rattle.proposal.specs.Promises.{Answers}
use Rattle.footprint.specs.declared.FootprintRefusal.TheVariants.{Map}
use Rattle.footprint.specs.Footprint.{Footprint}
use Rattle.footprint.specs.Promises.{FootprintDone}
use Rattle.footprint.specs.Code.{refused_proposal}
use Rattle.footprint.proofs.WayLaws.{untouched, readable, ComesOf, bounded, map-refused, proposal-refused, proposal-made}
use Rattle.footprint.proofs.footprint.Goals as goal
use Rattle.footprint.proofs.footprint.Goals.{After-partial_area}

pub returns-in_err-held : goal.returns-in_err-held
returns-in_err-held c =
    let a = c.args in
    let f = c.in_err-held.field-0.0 in
    let p = err_from_is_err_and c.from_residual.result c.from_residual.ensures.1 in
    rw (p.1, p.2) (untouched (fault_number f) (Map f) a.mask.now a.table.now _ refl
    (map-refused a.map.now (in_force a.register.places) a.draw f c.in_err-held.ensures (length a.mask.now) (length a.table.now)))

pub propose_from-requires : goal.propose_from-requires
propose_from-requires c =
    let a = c.args in
    subst Bounded (sym c.areas.ensures)
    (bounded a.map.now (in_force a.register.places) c.in_ok-held.held c.in_ok-held.ensures a.draw)

pub returns-in_err-p : goal.returns-in_err-p
returns-in_err-p c =
    let a = c.args in
    let x = c.in_err-p.field-0.0 in
    let made = subst (λ (l : List Holding). Answers (proposal l a.draw) (Err x)) c.areas.ensures c.in_err-p.ensures in
    let g = proposal-refused a.map.now (in_force a.register.places) c.in_ok-held.held c.in_ok-held.ensures a.draw x made in
    let p = err_from_is_err_and c.from_residual-in_err-p.result c.from_residual-in_err-p.ensures.1 in
    rw (p.1, p.2) (untouched g.number (refused_proposal x) a.mask.now a.table.now _ g.told
    (g.comes (length a.mask.now) (length a.table.now)))

-- what comes of the partial area
part-comes : (c : After-partial_area) → ComesOf c.args.map.now (in_force c.args.register.places) c.args.draw c.partial_area.result
part-comes c =
    let a = c.args in
    let made = subst (λ (l : List Holding). Answers (proposal l a.draw) (Ok c.in_ok-p.p)) c.areas.ensures c.in_ok-p.ensures in
    subst (ComesOf a.map.now (in_force a.register.places) a.draw) (sym c.partial_area.ensures)
    (proposal-made a.map.now (in_force a.register.places) c.in_ok-held.held c.in_ok-held.ensures a.draw c.in_ok-p.p made)

pub returns-in_err-a : goal.returns-in_err-a
returns-in_err-a c =
    let a = c.args in
    let r = c.in_err-a.field-0.0 in
    let g = subst (ComesOf a.map.now (in_force a.register.places) a.draw) c.in_err-a.was
    (part-comes (goal.at.returns-in_err-a c).After-partial_area) in
    let p = err_from_is_err_and c.from_residual-in_err-a.result c.from_residual-in_err-a.ensures.1 in
    rw (p.1, p.2) (untouched g.number r a.mask.now a.table.now _ g.told (g.comes (length a.mask.now) (length a.table.now)))

pub outline-requires : goal.outline-requires
outline-requires c =
    let a = c.args in
    let g = subst (ComesOf a.map.now (in_force a.register.places) a.draw) c.in_ok-a.was
    (part-comes (goal.at.outline-requires c).After-partial_area) in
    readable g.holds g.handed

pub returns : goal.returns
returns c =
    let a = c.args in
    let mask = a.mask.now in
    let table = a.table.now in
    let g = subst (ComesOf a.map.now (in_force a.register.places) a.draw) c.in_ok-a.was
    (part-comes (goal.at.returns c).After-partial_area) in
    let out = c.outline in
    subst (λ (o : Footprint). FootprintDone o out.result mask out.new.mask table out.new.table)
    (sym (g.comes (length mask) (length table)))
    (out.ensures g.area g.handed g.holds g.fits)
