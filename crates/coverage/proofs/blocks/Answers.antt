-- `coverage::blocks` meets its contract: by what is found of the area. Assumes nothing.
use Rattle.std.proofs.Common.{sym, ap, ◌∙◌, Ok, subst}
use Rattle.std.proofs.lemmas.Result.{err_from_is_err_and}
use Rattle.map.specs.Answers.{sought_means}
use Rattle.map.proofs.Accepted.{sought-up}
use Rattle.register.specs.Licences.{in_force}
use Rattle.coverage.specs.Cover.{holding_of}
use Rattle.coverage.specs.Blocks.{blocks_of}
use Rattle.coverage.specs.Answers.{answers, no_blocks, blocks_at}
use Rattle.coverage.specs.Limits.{Limits}
use Rattle.coverage.proofs.BlockLaws.{limits_of, blocks-exact}
use Rattle.coverage.proofs.LookLaws.{answered}
use Rattle.coverage.proofs.blocks.Goals as goal

pub returns-in_err-find_holding : goal.returns-in_err-find_holding
unfolding blocks_at
returns-in_err-find_holding c =
    let a = c.args in
    let p = err_from_is_err_and c.from_residual.result c.from_residual.ensures.1 in
    rw (p.1, p.2) (answered a.number no_blocks blocks_of (in_force a.register.places) a.map.now c.in_err-find_holding.ensures)

pub returns-in-None : goal.returns-in-None
unfolding blocks_at
returns-in-None c =
    let a = c.args in
    answered a.number no_blocks blocks_of (in_force a.register.places) a.map.now
    (sym (ap (λ o. sought_means (Ok o)) c.in-None.is) ∙ c.in_ok-find_holding.ensures)

pub returns-in-Some : goal.returns-in-Some
unfolding blocks_at
returns-in-Some c =
    let a = c.args in
    let ls = in_force a.register.places in
    let found = sym (ap (λ o. sought_means (Ok o)) c.in-Some.is) ∙ c.in_ok-find_holding.ensures in
    let st = (sought-up (holding_of ls) a.map.now a.number c.in-Some.h found).stands in
    ap answers (blocks-exact (subst Limits (sym st.handed) (limits_of ls st.area st.holds)) c.blocks-in-Some.ensures)
    ∙ answered a.number no_blocks blocks_of ls a.map.now found
