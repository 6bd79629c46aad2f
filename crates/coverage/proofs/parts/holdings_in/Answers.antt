-- `coverage::parts::holdings_in` meets its contract: the count, then the areas. Assumes nothing.
use Rattle.std.proofs.Common.{sym, subst}
use Rattle.std.proofs.lemmas.Result.{err_from_is_err_and}
use Rattle.map.specs.Format.{read_map}
use Rattle.map.proofs.FieldLaws.{bind-bad, bind-good}
use Rattle.register.specs.Licences.{in_force}
use Rattle.coverage.specs.Holdings.{HoldingsDone}
use Rattle.coverage.proofs.parts.holdings_in.Goals as goal

pub returns-in_err-count : goal.returns-in_err-count
unfolding read_map
returns-in_err-count c =
    let p = err_from_is_err_and c.from_residual.result c.from_residual.ensures.1 in
    rw (p.1, p.2) (sym (bind-bad _ c.in_err-count.ensures.value))

pub returns : goal.returns
unfolding read_map
returns c =
    let a = c.args in
    subst (λ x. HoldingsDone (in_force a.register.places) x c.holdings_from.result)
    (bind-good _ (c.in_ok-count.ensures.value)) c.holdings_from.ensures
