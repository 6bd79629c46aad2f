-- `map::look_up`: what is sought under no box, without its counts. Assumes nothing.
use Rattle.std.proofs.Common.{[], ap, ◌∙◌, rules}
use Rattle.map.proofs.FieldLaws.{passed_on}
use Rattle.map.proofs.AreaLaws.{bare, handed, look-up-is}
use Rattle.map.specs.Format.{read_map}
use Rattle.map.specs.Answers.{sought_means}
use Rattle.map.proofs.look_up.Goals as goal

pub returns-in_err-found : goal.returns-in_err-found
returns-in_err-found c =
    let a = c.args in
    ap sought_means (passed_on c.from_residual.ensures.1) ∙ ap bare c.in_err-found.ensures ∙ look-up-is [] _ a.number (read_map a.map.now)

pub returns : goal.returns
returns c =
    let a = c.args in
    handed _ _ c.map.ensures.cases (λ x y p. search rules) ∙ ap bare c.in_ok-found.ensures ∙ look-up-is [] _ a.number (read_map a.map.now)
