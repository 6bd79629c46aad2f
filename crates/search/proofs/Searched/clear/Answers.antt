-- `search::Searched::clear`: no entry before i ranks ahead. Assumes nothing.
use mathlib.Core.Path.{refl, sym, ◌∙◌}
use native.Mathlib.Omega.{arith}
use Rattle.search.specs.Proposal.{clear}
use Rattle.search.proofs.Select.{rank-small, clear-empty, clear-past, clear-stop}
use Rattle.search.proofs.Searched.clear.Goals as goal
use Rattle.search.proofs.Searched.clear.Goals.{in-Some+else-ahead, in_default}

pub loop-i-init : goal.loop-i-init
unfolding clear
loop-i-init c = refl

pub ahead-requires : goal.ahead-requires
ahead-requires c = (rank-small _ _ _ _ _ c.args.self.now.limits c.in-Some.ensures, c.requires)

pub returns-then-ahead : goal.returns-then-ahead
returns-then-ahead c =
    clear-stop _ _ _ c.args.r c.loop-i.i _ c.in-Some.q (omega (arith, c.loop-i-test.true, c.args.self.now.entries))
    c.in-Some.ensures (sym c.ahead.ensures ∙ c.if-ahead.true)

pub loop-i-preserved : goal.loop-i-preserved
loop-i-preserved c =
    elim c.match-rank_at.branch [
      | in-Some+else-ahead w ↦
          clear-past _ _ _ c.args.r c.loop-i.i w.in-Some.q c.loop-i.invariant w.in-Some.ensures
          (sym w.ahead.ensures ∙ w.if-ahead.false)
      | in_default w ↦ clear-empty _ _ _ c.args.r c.loop-i.i c.loop-i.invariant w.in_default.ensures
    ]
