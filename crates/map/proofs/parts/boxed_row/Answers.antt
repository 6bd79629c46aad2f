-- `map::parts::boxed_row`: the cells taken apart and held against the boxes, if each is within its limits. Assumes nothing.
use Rattle.std.proofs.Common.{◌≡◌, ◌*◌, ◌≤◌, false, length, sym, ap, ◌∙◌, arith}
use Rattle.std.proofs.lemmas.List.{length-take}
use Rattle.boxes.specs.Boxes.{edges_of}
use Rattle.boxes.specs.Rows.{row_fine, RowSums}
use Rattle.map.proofs.FieldLaws.{instead}
use Rattle.map.proofs.CountLaws.{fine-within, boxed-counts, past-counts, tally-small}
use Rattle.map.specs.Answers.{read_means}
use Rattle.map.proofs.parts.boxed_row.Goals as goal

pub returns-in_err-row-clause-value : goal.returns-in_err-row-clause-value
returns-in_err-row-clause-value c =
    let a = c.args in
    let e = c.in_err-row.ensures in
    let t = c.take_row in
    let row = t.new.row in
    let past : row_fine row.people row.latitudes row.longitudes a.n ≡ false = rw (t.ensures.count, e.ok_part) at c.count_row.ensures in
    ap read_means (instead c.from_residual.ensures.1 e.value e.ok_part)
    ∙ past-counts a.s.now a.n a.start (edges_of a.boxes.now) a.boxes.now.widths c.requires.0
    (sym (fine-within a.s.now a.start a.n t.ensures.fields) ∙ past)

-- the sums of the row
sums : (c : goal.After-from) →
    let row = c.take_row.new.row in
    RowSums (edges_of c.args.boxes.now) c.args.boxes.now.widths row.people row.latitudes row.longitudes c.args.n c.in_ok-row.row
sums c = rw (c.take_row.ensures.count, c.in_ok-row.ensures.ok_part) at c.count_row.ensures

pub returns-clause-value : goal.returns-clause-value
returns-clause-value c =
    let a = c.args in
    let counted = sums c in
    rw c.from.ensures (boxed-counts a.s.now a.start a.n c.take_row.ensures.fields counted c.requires.0)

pub returns-clause-small : goal.returns-clause-small
returns-clause-small c =
    let a = c.args in
    let counted = sums c in
    let taken = c.take_row.ensures.fields in
    let few : length (edges_of a.boxes.now) ≤ 256 = omega (arith, a.boxes.now.few, length-take (4 * a.boxes.now.count) a.boxes.now.edges) in
    rw c.from.ensures
    (tally-small a.s.now a.n a.start (edges_of a.boxes.now) a.boxes.now.widths few counted.narrow c.requires.0
    (sym (fine-within a.s.now a.start a.n taken) ∙ counted.fine)
    (boxed-counts a.s.now a.start a.n taken counted c.requires.0))
