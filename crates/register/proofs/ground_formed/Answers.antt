-- `register::ground_formed` meets its contract: by the two kinds of ground. Assumes nothing.
use mathlib.Core.Path.{◌∙◌}
use borrow.Author.Tests.{le-leb, lt-leb}
use Rattle.register.specs.Licences.{ground_formed}
use Rattle.register.proofs.ground_formed.Goals as goal

pub returns-then-n-ge1 : goal.returns-then-n-ge1
unfolding ground_formed
returns-then-n-ge1 c = simp (c.in-Area.is, le-leb _ _ c.if-n-ge1.true)

pub returns-else-n-ge1 : goal.returns-else-n-ge1
unfolding ground_formed
returns-else-n-ge1 c = simp (c.in-Area.is, lt-leb _ _ c.if-n-ge1.false)

pub returns-in-Box : goal.returns-in-Box
unfolding ground_formed
returns-in-Box c = c.box_formed.ensures ∙ simp c.in-Box.is
