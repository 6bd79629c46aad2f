-- `coverage::find_holding` meets its contract: by what is found of the area under the boxes. Assumes nothing.
use Rattle.std.proofs.Common.{sym, ap, ◌∙◌, Ok}
use Rattle.std.proofs.lemmas.Result.{err_from_is_err_and}
use Rattle.map.specs.Format.{read_map}
use Rattle.map.specs.Answers.{counted_area, sought_means, has}
use Rattle.map.proofs.Accepted.{sought-up}
use Rattle.boxes.specs.Boxes.{edges_of}
use Rattle.register.specs.Licences.{in_force}
use Rattle.coverage.specs.Cover.{holding_of}
use Rattle.coverage.proofs.CoverLaws.{holding-handed}
use Rattle.coverage.proofs.LookLaws.{sought-refused, sought-lacking, sought_has}
use Rattle.coverage.proofs.find_holding.Goals as goal

pub returns-in_err-find : goal.returns-in_err-find
returns-in_err-find c =
    let a = c.args in
    let b = c.boxes-boxes.result in
    let p = err_from_is_err_and c.from_residual.result c.from_residual.ensures.1 in
    rw (p.1, p.2)
    (sought-refused a.number (holding_of (in_force a.register.places)) (counted_area (edges_of b) b.widths) (read_map a.map.now)
    c.in_err-find.ensures)

pub returns-in-None : goal.returns-in-None
returns-in-None c =
    let a = c.args in
    let b = c.boxes-boxes.result in
    sought-lacking a.number (holding_of (in_force a.register.places)) (counted_area (edges_of b) b.widths) (read_map a.map.now)
    (sym (ap (λ o. sought_means (Ok o)) c.in-None.is) ∙ c.in_ok-find.ensures)

pub returns-in-Some : goal.returns-in-Some
returns-in-Some c =
    let a = c.args in
    let b = c.boxes-boxes.result in
    let counted = counted_area (edges_of b) b.widths in
    let l = sought-up counted a.map.now a.number c.in-Some.a
    (sym (ap (λ o. sought_means (Ok o)) c.in-Some.is) ∙ c.in_ok-find.ensures) in
    ap has (holding-handed c.boxes-boxes.ensures l.stands.holds l.stands.handed c.holding_of.ensures)
    ∙ sought_has a.number (holding_of (in_force a.register.places)) counted l
