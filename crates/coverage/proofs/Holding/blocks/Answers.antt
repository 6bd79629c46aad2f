-- `coverage::Holding::blocks` meets its contract: by whether the area is within the limits. Assumes nothing.
use mathlib.Core.Path.{sym, ◌∙◌}
use Rattle.lists.proofs.Tests.{takes, leaves}
use Rattle.coverage.specs.Blocks.{blocks_of}
use Rattle.coverage.specs.Answers.{no_blocks}
use Rattle.coverage.proofs.BlockLaws.{limits-told}
use Rattle.coverage.proofs.Holding.blocks.Goals as goal

pub blocks_within-requires : goal.blocks_within-requires
blocks_within-requires c =
    let h = c.args.self in
    limits-told h (sym c.in_limits.ensures ∙ c.if-in_limits.true)

pub returns-then-in_limits : goal.returns-then-in_limits
returns-then-in_limits c =
    c.blocks_within.ensures ∙ takes no_blocks (sym c.in_limits.ensures ∙ c.if-in_limits.true)

pub returns-else-in_limits : goal.returns-else-in_limits
returns-else-in_limits c =
    let h = c.args.self in
    leaves (blocks_of h) (sym c.in_limits.ensures ∙ c.if-in_limits.false)
