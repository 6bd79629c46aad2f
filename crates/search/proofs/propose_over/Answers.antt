-- `search::propose_over`: its calls, one after the other, are the definition's steps. Assumes nothing.
use Prim.Native.Nat.{ℕ}
use mathlib.Core.Path.{◌≡◌, sym, ap, ◌∙◌}
use mathlib.Core.List.{List}
use native.Mathlib.Omega.{arith}
use lib.ListN.{length, length-map}
use Rattle.search.specs.declared.Partial.{Partial}
use Rattle.search.specs.declared.Held.{Held}
use Rattle.search.specs.Search.{whites}
use Rattle.search.specs.Proposal.{sizes, weights, tied_to, pick}
use Rattle.search.proofs.Tables.{picked-entry, proposed}
use Rattle.search.proofs.propose_over.Goals as goal

-- the tied entries, up to as many sizes as there are areas
tied-sizes : (l : List Partial) (table : List Held)
    → tied_to (sizes l) (weights l) (whites table) (length l) ≡ tied_to (sizes l) (weights l) (whites table) (length (sizes l))
tied-sizes l table =
    ap (λ (j : ℕ). tied_to (sizes l) (weights l) (whites table) j) (sym (length-map l (λ (p : Partial). p.size.0)))

pub answer_at-requires : goal.answer_at-requires
answer_at-requires c =
    let l = c.args.partials.now in
    let e = ap (λ (q : List ℕ). pick q c.args.draw) (tied-sizes l c.visit.new.table) in
    let q = picked-entry _ _ _ _ _ (c.pick-t.ensures ∙ e) in
    (omega (arith, q.0, length-map l (λ (p : Partial). p.size.0)), q.1)

pub returns : goal.returns
returns c =
    let e = tied-sizes c.args.partials.now c.visit.new.table in
    proposed _ _ _ _ _ _ _ _ _ c.fill.ensures c.visit.ensures
    (c.tied-tied.ensures ∙ ap (λ (q : List ℕ). length q) e)
    (c.pick-t.ensures ∙ ap (λ (q : List ℕ). pick q c.args.draw) e)
    c.answer_at.ensures
