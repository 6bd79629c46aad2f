-- `ledger::call_in`: the first word says which call it is. Assumes nothing.
use native.Mathlib.Omega.{arith}
use Rattle.ledger.proofs.CallLaws.{item-grant, item-width, item-cancel, item-propose, item-footprint, item-unknown}
use Rattle.ledger.proofs.call_in.Goals as goal

pub returns-in-0 : goal.returns-in-0
returns-in-0 c mask table =
    item-grant c.args.item.now 0 mask table c.in-0.is c.ground_in.result c.ground_in.ensures

pub returns-in-1 : goal.returns-in-1
returns-in-1 c mask table = item-cancel c.args.item.now 0 mask table c.in-1.is

pub returns-in-2 : goal.returns-in-2
returns-in-2 c mask table = item-propose c.args.item.now 0 mask table c.in-2.is

pub returns-in-3 : goal.returns-in-3
returns-in-3 c mask table = item-footprint c.args.item.now 0 mask table c.in-3.is

pub returns-in-4 : goal.returns-in-4
returns-in-4 c mask table =
    item-width c.args.item.now 0 mask table c.in-4.is c.ground_in-in-4.result c.ground_in-in-4.ensures

pub returns-in_default : goal.returns-in_default
returns-in_default c mask table =
    item-unknown c.args.item.now 0 mask table (omega arith) (omega arith) (omega arith) (omega arith) (omega arith)
