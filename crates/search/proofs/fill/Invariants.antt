-- `search::fill`: after i areas entry 0 and the i entries after it are filled. Assumes nothing.
use Rattle.search.proofs.Tables.{Filled}
use Rattle.search.proofs.fill.Given as goal

abbrev pub invariant-loop-i : goal.invariant-loop-i
invariant-loop-i l = Filled l.partials l.table l.i
