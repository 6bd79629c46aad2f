-- `map::rows::cells_in`: at byte k, the bits of the bytes before it are counted. Assumes nothing.
use Rattle.std.proofs.Common.{◌+◌, ◌-◌, ◌<◌, drop, ◌∙◌, arith, rules}
use Rattle.std.proofs.lemmas.List.{get_or-take, get_or-drop}
use Rattle.map.proofs.RowLoops.{count-starts, count-turns}
use Rattle.map.proofs.rows.cells_in.Goals as goal

pub loop-b-init : goal.loop-b-init
loop-b-init c = let a = c.args in count-starts a.s.now a.at

pub loop-b-preserved : goal.loop-b-preserved
loop-b-preserved c =
    let a = c.args in
    let k = c.loop-b.b-index in
    let inside : k < a.at + a.w - a.at = omega (arith, c.loop-b-test.true) in
    count-turns c.loop-b.invariant (search rules)
    (get_or-take (a.at + a.w - a.at) (drop a.at a.s.now) k 0 inside ∙ get_or-drop a.at a.s.now k 0)
