-- `search::rank_of`: the test is the definition's; with sizes in their limits no product passes a u64. Assumes nothing.
use Rattle.std.proofs.Common.{rules}
use Rattle.search.specs.Choice.{rank_of}
use Rattle.search.proofs.rank_of.Goals as goal

pub returns : goal.returns
unfolding rank_of
returns c = search rules
