-- `search::within`: each arm is one of the definition's. Assumes nothing.
use mathlib.Core.Path.{refl}
use mathlib.Core.Logic.{inl, inr}
use native.Mathlib.Omega.{arith}
use Rattle.search.proofs.Inner.{within_end, within-last, within-next}
use Rattle.search.proofs.+within.Goals as goal

pub returns-in-empty : goal.returns-in-empty
returns-in-empty t c =
    let a = c.args in
    within_end a.rest.now a.left a.set a.bit a.cap _ _ c.in-empty.len_below c.leaf.ensures

pub returns-then-last-left : goal.returns-then-last-left
returns-then-last-left t c =
    let a = c.args in
    within-last a.rest.now a.left a.set a.bit a.cap _ _ _ c.in-len1.len_at_least c.in-len1.len_below c.leaf-in-len1.ensures
    (inl (c.if-last-left.true, c.leaf-then-last-left.ensures))

pub returns-else-last-left : goal.returns-else-last-left
returns-else-last-left t c =
    let a = c.args in
    within-last a.rest.now a.left a.set a.bit a.cap _ _ _ c.in-len1.len_at_least c.in-len1.len_below c.leaf-in-len1.ensures
    (inr (c.if-last-left.false, refl))

pub returns-then-first-left : goal.returns-then-first-left
returns-then-first-left t c =
    let a = c.args in
    within-next a.rest.now a.left a.set a.bit a.cap _ _ _ (omega (arith, c.in-len1-up.len_at_least)) c.within.ensures
    (inl (c.if-first-left.true, c.within-then-first-left.ensures))

pub returns-else-first-left : goal.returns-else-first-left
returns-else-first-left t c =
    let a = c.args in
    within-next a.rest.now a.left a.set a.bit a.cap _ _ _ (omega (arith, c.in-len1-up.len_at_least)) c.within.ensures
    (inr (c.if-first-left.false, refl))
