-- `boxes::rows::under_box`: a box apart from the row covers no cell, one around it all; any other is held against each, by the longitudes
-- alone if it spans the row from south to north. Assumes nothing.
use Rattle.std.proofs.Common.{◌∙◌, sym, rules}
use mir.Syntax.{w32}
use mir.Val.{SFits}
use Rattle.boxes.specs.Boxes.{box_covers}
use Rattle.boxes.proofs.SignedLaws.{told_span}
use Rattle.boxes.proofs.RowLaws.{apart_none, columns-decide, around-all, under_none, under_all, under_same, between}
use Rattle.boxes.proofs.rows.under_box.Goals as goal

pub returns-then-is_apart : goal.returns-then-is_apart
returns-then-is_apart c =
    let e = c.args.edges in
    let o = c.requires.outlined in
    let row = c.args.row.now in
    under_none
    (apart_none row.latitudes row.longitudes row.count c.args.outline.latitudes c.args.outline.longitudes o.latitudes o.longitudes
    e.south e.north e.west e.east (sym c.is_apart.ensures ∙ c.if-is_apart.true))

pub returns-then-not-is_between : goal.returns-then-not-is_between
returns-then-not-is_between c =
    let e = c.args.edges in
    c.count_under.ensures (box_covers e.south e.north e.west e.east) (λ x y b p. search rules)

pub returns-then-is_between : goal.returns-then-is_between
returns-then-is_between c =
    let e = c.args.edges in
    let o = c.requires.outlined in
    let row = c.args.row.now in
    let outline = c.args.outline in
    let s : SFits w32 e.south = search rules in
    let n : SFits w32 e.north = search rules in
    let w : SFits w32 e.west = search rules in
    let a : SFits w32 e.east = search rules in
    under_all c.requires.few o.people
    (around-all row.latitudes row.longitudes row.count outline.latitudes outline.longitudes o.latitudes o.longitudes
    e.south e.north e.west e.east (told_span outline.latitudes s n c.is_between.ensures c.if-not-is_between.false)
    (told_span outline.longitudes w a c.is_between-2.ensures c.if-is_between.true))

pub returns : goal.returns
returns c =
    let e = c.args.edges in
    let o = c.requires.outlined in
    let row = c.args.row.now in
    let outline = c.args.outline in
    let s : SFits w32 e.south = search rules in
    let n : SFits w32 e.north = search rules in
    under_same
    (columns-decide row.latitudes row.longitudes row.count outline.latitudes outline.longitudes o.latitudes o.longitudes
    e.south e.north e.west e.east (told_span outline.latitudes s n c.is_between.ensures c.if-not-is_between.false))
    (c.count_under-2.ensures (between e.west e.east) (λ x y b p. search rules))
