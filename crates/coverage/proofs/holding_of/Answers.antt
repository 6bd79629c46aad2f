-- `coverage::holding_of` meets its contract: the area's own fields, its c and its sum of cells. Assumes nothing.
use mathlib.Core.Path.{ap, ◌∙◌, subst}
use Rattle.coverage.specs.declared.Holding.{Holding}
use Rattle.coverage.specs.declared.CoverageSums.{CoverageSums}
use Rattle.register.specs.declared.Naming.{Naming}
use Rattle.coverage.specs.Limits.{FewNaming, sums_by}
use Rattle.coverage.proofs.CoverLaws.{naming-is, naming-few}
use Rattle.coverage.proofs.holding_of.Goals as goal

pub returns : goal.returns
returns c =
    let a = c.args.a in
    let with : CoverageSums → Holding = λ s. record {
      number = a.area.number;
      weight = a.area.weight;
      population = a.area.population;
      covered = s.mhz_pops;
      cells = s.cells;
    } in
    let named = naming-is c.naming.ensures in
    record {
      is = ap with (c.sums_of-sums.ensures ∙ ap (λ (n : Naming). sums_by n a.counts) named);
      few = subst FewNaming named (naming-few c.naming.ensures);
    }
