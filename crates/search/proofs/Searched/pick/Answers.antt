-- `search::Searched::pick`: the place is below the count, so it is one of the tied entries. Assumes nothing.
use Prim.Native.Nat.{ℕ, ◌%◌, ◌<◌}
use mathlib.Core.Path.{sym, ap, ◌∙◌}
use mathlib.Core.List.{List}
use native.Mathlib.Nat.{pos_of_ne-zero}
use native.Mathlib.Omega.{arith}
use lib.ListN.{length, get_or}
use Rattle.std.proofs.Common.{Option, rules, tests}
use Rattle.std.specs.Option.{unwrap_or}
use Rattle.std.specs.List.{slice_get}
use Rattle.std.proofs.lemmas.Iterator.Adapters.{option_map_id}
use Rattle.std.proofs.lemmas.Iterator.{YieldsList-from_range}
use Rattle.std.proofs.lemmas.Iterator.Consumers.{YieldsList-from_filter, nth_from_yields_List}
use Rattle.std.proofs.lemmas.Option.{unwrap_or-slice_get}
use Rattle.search.specs.Search.{whites}
use Rattle.search.specs.Proposal.{sizes, weights, best_at, tied_to}
use Rattle.search.proofs.Select.{tied-filter}
use Rattle.search.proofs.Tables.{pick-none, pick_some}
use Rattle.search.proofs.Searched.pick.Goals as goal

pub returns-then-tied-eq0 : goal.returns-then-tied-eq0
returns-then-tied-eq0 c = pick-none _ c.args.draw (sym c.requires ∙ c.if-tied-eq0.true)

pub returns : goal.returns
returns c =
    let s = c.args.self.now in
    let e = nth_from_yields_List _ _ _ c.nth.ensures.ran
    (YieldsList-from_filter _ (λ t. best_at (sizes s.partials.now) (weights s.partials.now) (whites s.table.now) t)
    (YieldsList-from_range 1 (length s.table.now) (length s.partials.now) (cc) (omega (arith, s.entries)))
    c.filter.ensures.closure (λ x r q k. search (rules, tests))) in
    let l : List ℕ = tied_to (sizes s.partials.now) (weights s.partials.now) (whites s.table.now) (length s.partials.now) in
    let some : 0 < length l = omega (arith, pos_of_ne-zero c.if-tied-eq0.false, c.requires) in
    c.unwrap_or.ensures
    ∙ ap (λ (o : Option ℕ). unwrap_or o 0)
    (sym (option_map_id c.nth.result) ∙ e
    ∙ ap (λ (q : List ℕ). slice_get q (c.args.draw % c.args.tied)) (sym (tied-filter _ _ _ (length s.partials.now))))
    ∙ unwrap_or-slice_get l (c.args.draw % c.args.tied) 0
    ∙ ap (λ (n : ℕ). get_or l (c.args.draw % n) 0) c.requires
    ∙ sym (pick_some l c.args.draw some)
