-- `subset::leave_out`: with room the chosen places are the cells that are left out; without, nothing is called. Assumes nothing.
use mathlib.Core.Path.{sym, ◌∙◌}
use lib.ListN.{length}
use Rattle.subset.proofs.MarkedLaws.{roomy-out}
use Rattle.subset.proofs.JoinLaws.{strikes-chosen}
use Rattle.subset.proofs.leave_out.Goals as goal

pub choose-requires : goal.choose-requires
choose-requires c =
    let a = c.args in
    roomy-out (length a.mask.now) (length a.people.now) a.n a.slack (length a.table.now) (sym c.has_room.ensures ∙ c.if-has_room.true)

pub returns-then-has_room : goal.returns-then-has_room
returns-then-has_room c =
    let a = c.args in
    strikes-chosen a.people.now a.n a.slack a.mask.now a.table.now c.choose.new.mask
    c.choose.new.table (sym c.has_room.ensures ∙ c.if-has_room.true)
    c.choose.ensures.marks c.choose.ensures.rest
