-- `search::visit`: its three branches are the definition's. Assumes nothing.
use Prim.Native.Nat.{ℕ, ◌<◌}
use mathlib.Core.Path.{◌≡◌, ap, ◌∙◌}
use mathlib.Core.List.{List}
use mathlib.Core.Logic.{inl, inr}
use native.Mathlib.Omega.{arith}
use lib.ListN.{length}
use Rattle.search.specs.declared.Held.{Held}
use Rattle.search.specs.Search.{Ready, kept_of}
use Rattle.search.proofs.Branches.{bit-small}
use Rattle.search.proofs.Inner.{exact-of, none-of, next-of, outer-room, beyond-length}
use Rattle.search.proofs.+visit.Goals as goal
use Rattle.search.proofs.+visit.Goals.{then-m-left, else-m-left}

-- some area is undecided
short : {n at e s bit entries : ℕ} → Ready n at e s bit entries → (at ≡ n → ⊥) → at < n
short r h = omega (arith, r.within)

pub overflow_mul-double : goal.overflow_mul-double
overflow_mul-double t c = omega (arith, bit-small c.requires)

pub within-requires : goal.within-requires
within-requires t c =
    let a = c.args in
    let p = c.requires in
    outer-room (length a.partials.now) a.at a.set a.bit _ p.few (short p c.if-at-partials.false) p.power p.small
    (beyond-length a.partials.now a.at)

pub returns-then-left-eq0 : goal.returns-then-left-eq0
returns-then-left-eq0 t c =
    let a = c.args in
    exact-of a.partials.now a.at a.left a.set a.bit a.table.now c.keep.new.held
    c.if-at-partials.true c.if-left-eq0.true c.keep.ensures

pub returns-else-left-eq0 : goal.returns-else-left-eq0
returns-else-left-eq0 t c =
    let a = c.args in
    none-of a.partials.now a.at a.left a.set a.bit a.table.now c.if-at-partials.true c.if-left-eq0.false

pub returns-after-m-left : goal.returns-after-m-left
returns-after-m-left t c =
    let a = c.args in
    let p = c.requires in
    let l = short p c.if-at-partials.false in
    let j = c.if-m-left in
    next-of a.partials.now a.at a.left a.set a.bit a.table.now c.visit.new.table j.table c.within.new.held l
    (omega (arith, j.auto.table, p.room, l)) c.visit.ensures
    (elim j.branch [
      | then-m-left w ↦ inl (w.if-m-left.true, ap (λ (x : List Held). kept_of x) w.table-is ∙ w.visit-then-m-left.ensures)
      | else-m-left w ↦ inr (w.if-m-left.false, ap (λ (x : List Held). kept_of x) w.table-is)
    ])
    c.within.ensures
