-- `map::parts::areas`: the search, one area a turn. Assumes nothing.
use Rattle.std.proofs.Common.{sym, ap, ◌∙◌, eq-eqb, ne_eqb}
use Rattle.std.specs.Option.{option_or}
use Rattle.lists.proofs.Tests.{takes, leaves}
use Rattle.map.proofs.FieldLaws.{passed_on}
use Rattle.map.proofs.AreaLaws.{search-starts, search-stops, search-turns, search-ends}
use Rattle.map.specs.Answers.{sought_means}
use Rattle.map.proofs.parts.areas.Goals as goal

pub loop-init : goal.loop-init
loop-init c = search-starts

pub returns-in_err-counted : goal.returns-in_err-counted
returns-in_err-counted c =
    ap sought_means (passed_on c.from_residual.ensures.1) ∙ search-stops c.loop.invariant c.loop-test.true c.in_err-counted.ensures

pub loop-preserved : goal.loop-preserved
loop-preserved c =
    search-turns c.loop.invariant c.loop-test.true c.in_ok-counted.ensures
    (c.or-found.ensures ∙ ap (option_or c.loop.found) c.then_some.ensures)

pub returns-then-at-map : goal.returns-then-at-map
returns-then-at-map c =
    takes _ (eq-eqb _ _ c.if-at-map.true) ∙ sym (search-ends c.loop.invariant c.loop-test.false)

pub returns-else-at-map : goal.returns-else-at-map
returns-else-at-map c =
    leaves _ (ne_eqb _ _ c.if-at-map.false) ∙ sym (search-ends c.loop.invariant c.loop-test.false)
