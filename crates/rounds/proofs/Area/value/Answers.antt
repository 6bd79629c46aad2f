-- `rounds::Area::value`: V is within a u64, so the product is exact. Assumes nothing.
use mathlib.Core.Path.{◌∙◌}
use Rattle.rounds.proofs.LimitLaws.{value-exact}
use Rattle.rounds.proofs.Area.value.Goals as goal

pub returns : goal.returns
returns c =
    let a = c.args in
    c.weighted.ensures ∙ value-exact a.self.weight a.people.0 c.requires.1 c.requires.0
