-- `search::propose`: the limits hold past the test, and the table has an entry for each area and one more. Assumes nothing.
use Prim.Native.Nat.{◌+◌, ◌≤◌}
use mathlib.Core.Path.{sym}
use mathlib.Core.List.{List}
use native.Mathlib.Omega.{arith}
use lib.ListN.{length, length-map}
use lib.Seq.{length-take-le}
use Rattle.search.specs.declared.Partial.{Partial}
use Rattle.search.specs.Proposal.{sizes, weights, Limits}
use Rattle.search.proofs.LimitLaws.{past-test}
use Rattle.search.proofs.propose.Goals as goal

few : (l : List Partial) → Limits (sizes l) (weights l) → length l + 1 ≤ 21
few l h = omega (arith, h.few, length-map l (λ (p : Partial). p.size.0))

pub slice_bounds-table-end : goal.slice_bounds-table-end
slice_bounds-table-end c =
    few c.args.partials.now (past-test _ _ c.in_limits.result c.in_limits.ensures c.if-not-in_limits.false)

pub slice_bounds-propose_over-end : goal.slice_bounds-propose_over-end
slice_bounds-propose_over-end c =
    let l = c.args.partials.now in
    let h = few l (past-test _ _ c.in_limits.result c.in_limits.ensures c.if-not-in_limits.false) in
    sym (length-take-le (length l + 1) _ h)

pub propose_over-requires : goal.propose_over-requires
propose_over-requires c =
    let l = c.args.partials.now in
    let h = past-test _ _ c.in_limits.result c.in_limits.ensures c.if-not-in_limits.false in
    (h, length-take-le (length l + 1) _ (few l h))
