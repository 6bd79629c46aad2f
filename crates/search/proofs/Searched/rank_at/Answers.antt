-- `search::Searched::rank_at`: entry 0 has the size 0 and the weight 1, any other those of its area. Assumes nothing.
use Prim.Native.Nat.{◌-◌}
use mathlib.Core.Path.{sym, ◌∙◌}
use native.Mathlib.Omega.{arith}
use borrow.Author.Tests.{ltb-true, ltb-false}
use Rattle.search.proofs.Select.{white-of, size-of, read-past, exact-none, exact-some, area-none, area-some}
use Rattle.search.proofs.Searched.rank_at.Goals as goal

pub returns-in_err-white : goal.returns-in_err-white
returns-in_err-white c =
    let s = c.args.self.now in
    c.from_residual.ensures
    ∙ read-past s.partials.now s.table.now c.args.t s.entries (ltb-false _ _ (sym c.in_err-white.ensures.lookup.0))

pub returns-then-white-lt1 : goal.returns-then-white-lt1
returns-then-white-lt1 c =
    let s = c.args.self.now in
    let q = c.in_ok-white.ensures.lookup in
    exact-some s.partials.now s.table.now c.args.t _ (white-of s.table.now c.args.t _ (ltb-true _ _ (sym q.0)) q.1)
    _ c.if-t-eq0.true c.if-white-lt1.true c.rank_of.ensures

pub returns-else-white-lt1 : goal.returns-else-white-lt1
returns-else-white-lt1 c =
    let s = c.args.self.now in
    let q = c.in_ok-white.ensures.lookup in
    exact-none s.partials.now s.table.now c.args.t _ (white-of s.table.now c.args.t _ (ltb-true _ _ (sym q.0)) q.1)
    c.if-t-eq0.true c.if-white-lt1.false

pub rank_of-requires-then-white-area : goal.rank_of-requires-then-white-area
rank_of-requires-then-white-area c =
    let s = c.args.self.now in
    (omega (arith, size-of s.partials.now (c.args.t - 1), s.limits.sizes (c.args.t - 1)), omega arith)

pub returns-then-white-area : goal.returns-then-white-area
returns-then-white-area c =
    let s = c.args.self.now in
    let q = c.in_ok-white.ensures.lookup in
    area-some s.partials.now s.table.now c.args.t _ (white-of s.table.now c.args.t _ (ltb-true _ _ (sym q.0)) q.1)
    _ c.if-t-eq0.false c.if-white-area.true c.rank_of-then-white-area.ensures

pub returns-else-white-area : goal.returns-else-white-area
returns-else-white-area c =
    let s = c.args.self.now in
    let q = c.in_ok-white.ensures.lookup in
    area-none s.partials.now s.table.now c.args.t _ (white-of s.table.now c.args.t _ (ltb-true _ _ (sym q.0)) q.1)
    c.if-t-eq0.false c.if-white-area.false
