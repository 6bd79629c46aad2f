-- `abi::codwalet_grant`: the grant of the licence that the caller laid out, at full width. Assumes nothing.
use mathlib.Core.Path.{subst}
use Rattle.register.specs.Promises.{GrantStep}
use Rattle.abi.proofs.codwalet_grant.Goals as goal

pub returns : goal.returns
returns c =
    subst (λ l. GrantStep c.args.current l c.grant_step.result) c.granted.ensures
    c.grant_step.ensures
