-- `search::in_limits`: the tests in turn are the definition's. Assumes nothing.
use mathlib.Core.Path.{sym, ◌∙◌}
use borrow.Author.Tests.{lt-leb}
use Rattle.std.proofs.Common.{rules, tests}
use Rattle.std.proofs.lemmas.Iterator.{YieldsList-from_slice}
use Rattle.std.proofs.lemmas.Iterator.Search.{all_from_yields_List}
use Rattle.search.proofs.LimitLaws.{too_many, small, by_areas}
use Rattle.search.proofs.in_limits.Goals as goal

pub returns-then-partials-le20 : goal.returns-then-partials-le20
returns-then-partials-le20 c =
    let l = c.args.partials.now in
    all_from_yields_List small _ _ _ c.all.ensures.ran (YieldsList-from_slice l cc) (λ x b q k. search (rules, tests))
    ∙ by_areas l c.if-partials-le20.true

pub returns-else-partials-le20 : goal.returns-else-partials-le20
returns-else-partials-le20 c =
    lt-leb _ _ c.if-partials-le20.false ∙ sym (too_many c.args.partials.now c.if-partials-le20.false)
