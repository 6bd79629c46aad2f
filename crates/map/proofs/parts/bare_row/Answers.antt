-- `map::parts::bare_row`: the sum of the cells, if each is within its limits. Assumes nothing.
use Rattle.std.proofs.Common.{[], sym, ap, ◌∙◌, arith}
use Rattle.map.proofs.FieldLaws.{instead}
use Rattle.map.proofs.CountLaws.{bare-counts, past-counts, tally-small, told_fine, told_past}
use Rattle.map.specs.Answers.{read_means}
use Rattle.map.proofs.parts.bare_row.Goals as goal

pub returns-in_err-people-clause-value : goal.returns-in_err-people-clause-value
returns-in_err-people-clause-value c widths =
    let a = c.args in
    let e = c.in_err-people.ensures in
    ap read_means (instead c.from_residual.ensures.1 e.value e.ok_part)
    ∙ past-counts a.s.now a.n a.start [] widths c.requires.0 (told_past _ _ (sym e.ok_part ∙ c.sum_row.ensures))

pub returns-clause-value : goal.returns-clause-value
returns-clause-value c =
    let a = c.args in
    let fine = told_fine _ (sym c.in_ok-people.ensures.ok_part ∙ c.sum_row.ensures) in
    bare-counts a.s.now a.n a.start c.from.result c.requires.0 fine.0 (c.from.ensures ∙ fine.1)

pub returns-clause-small : goal.returns-clause-small
returns-clause-small c =
    let a = c.args in
    let fine = told_fine _ (sym c.in_ok-people.ensures.ok_part ∙ c.sum_row.ensures) in
    tally-small a.s.now a.n a.start [] [] (omega arith) (λ i l. omega arith) c.requires.0 fine.0
    (bare-counts a.s.now a.n a.start c.from.result c.requires.0 fine.0 (c.from.ensures ∙ fine.1) [])
