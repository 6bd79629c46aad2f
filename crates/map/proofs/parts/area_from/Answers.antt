-- `map::parts::area_from`: the walk over the rows, then the limits of the population. Assumes nothing.
use Rattle.std.proofs.Common.{ap, ◌∙◌, rules}
use Rattle.boxes.specs.Boxes.{edges_of}
use Rattle.map.proofs.FieldLaws.{passed_on}
use Rattle.map.proofs.AreaLaws.{body-bad, body-good, body-out}
use Rattle.map.specs.Answers.{area_means, head_of}
use Rattle.map.proofs.parts.area_from.Goals as goal

pub returns-in_err-counts : goal.returns-in_err-counts
returns-in_err-counts c =
    let a = c.args in
    ap area_means (passed_on c.from_residual.ensures.1)
    ∙ body-bad a.s.now (head_of a.h) a.start (edges_of a.boxes.now) a.boxes.now.widths c.in_err-counts.ensures

pub returns-then-not-contains : goal.returns-then-not-contains
returns-then-not-contains c =
    let a = c.args in
    body-out a.s.now (head_of a.h) a.start (edges_of a.boxes.now) a.boxes.now.widths c.in_ok-counts.ensures
    (search rules)

pub returns : goal.returns
returns c =
    let a = c.args in
    body-good a.s.now (head_of a.h) a.start (edges_of a.boxes.now) a.boxes.now.widths c.in_ok-counts.ensures
    (search rules)
