-- `coverage::coverage` meets its contract: by what is found of the area. Assumes nothing.
use Rattle.std.proofs.Common.{sym, ap, ◌∙◌, Ok}
use Rattle.std.proofs.lemmas.Result.{err_from_is_err_and}
use Rattle.map.specs.Answers.{sought_means}
use Rattle.register.specs.Licences.{in_force}
use Rattle.coverage.specs.Cover.{sums_of_holding}
use Rattle.coverage.specs.Answers.{answers, no_sums, coverage_at}
use Rattle.coverage.proofs.LookLaws.{answered}
use Rattle.coverage.proofs.coverage.Goals as goal

pub returns-in_err-find_holding : goal.returns-in_err-find_holding
unfolding coverage_at
returns-in_err-find_holding c =
    let a = c.args in
    let p = err_from_is_err_and c.from_residual.result c.from_residual.ensures.1 in
    rw (p.1, p.2) (answered a.number no_sums sums_of_holding (in_force a.register.places) a.map.now c.in_err-find_holding.ensures)

pub returns-in-None : goal.returns-in-None
unfolding coverage_at
returns-in-None c =
    let a = c.args in
    answered a.number no_sums sums_of_holding (in_force a.register.places) a.map.now
    (sym (ap (λ o. sought_means (Ok o)) c.in-None.is) ∙ c.in_ok-find_holding.ensures)

pub returns-in-Some : goal.returns-in-Some
unfolding coverage_at
returns-in-Some c =
    let a = c.args in
    ap answers c.from.ensures
    ∙ answered a.number no_sums sums_of_holding (in_force a.register.places) a.map.now
    (sym (ap (λ o. sought_means (Ok o)) c.in-Some.is) ∙ c.in_ok-find_holding.ensures)
