-- `search::Searched::best_at`: an entry that holds a choice is compared with every entry, one that holds none is not best.
-- Assumes nothing.
use mathlib.Core.Path.{◌∙◌}
use Rattle.search.proofs.Select.{rank-small, best-held, best_none}
use Rattle.search.proofs.Searched.best_at.Goals as goal

pub clear-requires : goal.clear-requires
clear-requires c = rank-small _ _ _ _ _ c.args.self.now.limits c.in-Some.ensures

pub returns-in-Some : goal.returns-in-Some
returns-in-Some c =
    let s = c.args.self.now in
    c.clear.ensures ∙ best-held s.partials.now s.table.now c.args.t c.in-Some.r c.in-Some.ensures

pub returns-in-None : goal.returns-in-None
returns-in-None c = best_none c.args.self.now.partials.now c.args.self.now.table.now c.args.t c.in-None.ensures
