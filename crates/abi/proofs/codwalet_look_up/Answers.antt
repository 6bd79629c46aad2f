-- `abi::codwalet_look_up`: refused, lacking, or the area with the place of its rows. Assumes nothing.
use Rattle.map.proofs.Accepted.{looked-up, inside_of}
use Rattle.abi.proofs.FlatLaws.{found-done}
use Rattle.abi.proofs.codwalet_look_up.Goals as goal

-- the area that was found starts before it ends
pub overflow_sub-result : goal.overflow_sub-result
overflow_sub-result c = (inside_of (looked-up c.args.map.now c.args.number _ (rw c.in-Ok-Some.field-0-is at c.in-Ok-Some.ensures))).0

pub returns-in-Err : goal.returns-in-Err
returns-in-Err c = rw c.from.ensures (found-done c.args.map.now c.args.number _ c.in-Err.ensures)

pub returns-in-Ok-None : goal.returns-in-Ok-None
returns-in-Ok-None c = found-done c.args.map.now c.args.number _ (rw c.in-Ok-None.field-0-is at c.in-Ok-None.ensures)

pub returns-in-Ok-Some : goal.returns-in-Ok-Some
returns-in-Ok-Some c = found-done c.args.map.now c.args.number _ (rw c.in-Ok-Some.field-0-is at c.in-Ok-Some.ensures)
