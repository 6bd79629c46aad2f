-- `abi::codwalet_propose`: the proposal in numbers. Assumes nothing.
use Rattle.abi.proofs.FlatLaws.{flat-refused, flat-answers}
use Rattle.abi.proofs.codwalet_propose.Goals as goal

pub returns-in-Err : goal.returns-in-Err
returns-in-Err c = flat-refused c.in-Err.ensures c.from.ensures

pub returns-in-Ok : goal.returns-in-Ok
returns-in-Ok c = flat-answers c.in-Ok.ensures c.from-in-Ok.ensures c.given_to.ensures
