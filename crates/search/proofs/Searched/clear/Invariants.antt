-- `search::Searched::clear`: no entry before i ranks ahead. Assumes nothing.
use mathlib.Core.Path.{◌≡◌}
use mathlib.Core.Bool.{true}
use Rattle.search.specs.Search.{whites}
use Rattle.search.specs.Proposal.{sizes, weights, clear}
use Rattle.search.proofs.Searched.clear.Given as goal

abbrev pub invariant-loop-i : goal.invariant-loop-i
invariant-loop-i l =
    clear (sizes l.self.partials.now) (weights l.self.partials.now) (whites l.self.table.now) l.r l.i ≡ true
