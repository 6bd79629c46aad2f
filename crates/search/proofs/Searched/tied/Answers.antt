-- `search::Searched::tied`: the best entries from 1 on are the tied ones. Assumes nothing.
use mathlib.Core.Path.{sym, ap, ◌∙◌}
use mathlib.Core.List.{List}
use Prim.Native.Nat.{ℕ}
use native.Mathlib.Omega.{arith}
use lib.ListN.{length}
use Rattle.std.proofs.Common.{rules, tests}
use Rattle.std.proofs.lemmas.Iterator.{YieldsList-from_range}
use Rattle.std.proofs.lemmas.Iterator.Consumers.{YieldsList-from_filter, count_from_yields_List}
use Rattle.search.specs.Search.{whites}
use Rattle.search.specs.Proposal.{sizes, weights, best_at}
use Rattle.search.proofs.Select.{tied-filter}
use Rattle.search.proofs.Searched.tied.Goals as goal

pub returns : goal.returns
returns c =
    let s = c.args.self.now in
    count_from_yields_List c.filter.result _ c.count.ensures.ran
    (YieldsList-from_filter _ (λ t. best_at (sizes s.partials.now) (weights s.partials.now) (whites s.table.now) t)
    (YieldsList-from_range 1 (length s.table.now) (length s.partials.now) (cc) (omega (arith, s.entries)))
    c.filter.ensures.closure (λ x r q k. search (rules, tests)))
    ∙ ap (λ (l : List ℕ). length l) (sym (tied-filter _ _ _ (length s.partials.now)))
