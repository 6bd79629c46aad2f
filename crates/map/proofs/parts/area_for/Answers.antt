-- `map::parts::area_for`: the head, then what follows it, under boxes if the head has the number. Assumes nothing.
use Rattle.std.proofs.Common.{ap, ◌∙◌}
use Rattle.boxes.specs.Boxes.{edges_of}
use Rattle.map.proofs.FieldLaws.{passed_on, bind-bad, bind-good}
use Rattle.map.proofs.AreaLaws.{for-sought, for-other}
use Rattle.map.specs.Reading.{map_read}
use Rattle.map.specs.Format.{read_area}
use Rattle.map.specs.Answers.{head_of, area_means, counted_for}
use Rattle.map.proofs.parts.area_for.Goals as goal

pub returns-in_err-h : goal.returns-in_err-h
unfolding read_area
returns-in_err-h c =
    let a = c.args in
    ap area_means (passed_on c.from_residual.ensures.1)
    ∙ ap (map_read (counted_for a.number (edges_of a.boxes.now) a.boxes.now.widths)) (bind-bad _ c.in_err-h.ensures)

pub returns-then-h-number : goal.returns-then-h-number
unfolding read_area
returns-then-h-number c =
    let a = c.args in
    let g = c.in_ok-h in
    for-sought a.s.now g.start a.number (edges_of a.boxes.now) a.boxes.now.widths (head_of g.h) c.if-h-number.true
    c.area_from.ensures
    ∙ ap (map_read (counted_for a.number (edges_of a.boxes.now) a.boxes.now.widths)) (bind-good _ g.ensures)

pub returns : goal.returns
unfolding read_area
returns c =
    let a = c.args in
    let g = c.in_ok-h in
    for-other a.s.now g.start a.number (edges_of a.boxes.now) a.boxes.now.widths (head_of g.h) _ c.if-h-number.false
    c.area_from-2.ensures
    ∙ ap (map_read (counted_for a.number (edges_of a.boxes.now) a.boxes.now.widths)) (bind-good _ g.ensures)
