-- `abi::codwalet_grant_width`: the grant of the licence that the caller laid out, at a width. Assumes nothing.
use mathlib.Core.Path.{subst}
use Rattle.register.specs.Promises.{GrantStep}
use Rattle.abi.proofs.codwalet_grant_width.Goals as goal

pub returns : goal.returns
returns c =
    subst (λ l. GrantStep c.args.current l c.grant_step.result) c.granted.ensures
    c.grant_step.ensures
