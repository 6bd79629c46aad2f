-- `map::parts::row`: the room of the bit map, the bits past the last column, the room of the cells, then the cells. Assumes nothing.
use Rattle.std.proofs.Common.{ℕ, Bool, leb, ◌≡◌, ◌+◌, ◌≤◌, true, List, [], length, ℤ, sym, refl, ap, ◌∙◌}
use Rattle.lists.proofs.Tests.{leaves}
use Rattle.boxes.specs.Boxes.{edges_of}
use Rattle.map.proofs.FieldLaws.{room, no_room, field-ends, bit-map-is, bind-bad, passed_on}
use Rattle.map.proofs.LoopLaws.{counts_more}
use Rattle.map.proofs.CountLaws.{row_is, row-few}
use Rattle.map.proofs.ShortLaws.{cells-short}
use Rattle.map.specs.Reading.{bad, map_read}
use Rattle.map.specs.Format.{bit_map_bytes, read_row}
use Rattle.map.specs.Answers.{read_means}
use Rattle.map.specs.Counting.{cell_counts, row_counts}
use Rattle.map.specs.Cells.{read_cells}
use Rattle.map.proofs.parts.row.Goals as goal

pub returns-then-not-has_room-clause-value : goal.returns-then-not-has_room-clause-value
unfolding read_row
returns-then-not-has_room-clause-value c =
    let a = c.args in
    let w = bit_map_bytes a.h.columns in
    let short = no_room (a.at + w) (length a.s.now) c.has_room.ensures c.if-not-has_room.true in
    ap (map_read (row_counts (edges_of a.boxes.now) a.boxes.now.widths)) (bind-bad _ (field-ends a.s.now a.at w tt _ short))

-- what the test of the room tells
fits : (s : List ℕ) (columns at : ℕ) {b : Bool} → b ≡ leb (at + bit_map_bytes columns) (length s) → b ≡ true
    → at + bit_map_bytes columns ≤ length s
fits s columns at e t = room (at + bit_map_bytes columns) (length s) e t

pub returns-then-not-clear-clause-value : goal.returns-then-not-clear-clause-value
unfolding read_row
returns-then-not-clear-clause-value c =
    let a = c.args in
    let stands = leaves _ (sym c.clear.ensures ∙ c.if-not-clear.true) in
    let there = fits a.s.now a.h.columns a.at c.has_room.ensures c.if-not-has_room.false in
    ap (map_read (row_counts (edges_of a.boxes.now) a.boxes.now.widths))
    (bind-bad _ (bit-map-is a.s.now a.h.columns a.at stands there))

pub returns-in_err-first_fault-clause-value : goal.returns-in_err-first_fault-clause-value
returns-in_err-first_fault-clause-value c =
    let a = c.args in
    let none = sym c.clear.ensures ∙ c.if-not-clear.false in
    let edges = edges_of a.boxes.now in
    let widths = a.boxes.now.widths in
    let there = fits a.s.now a.h.columns a.at c.has_room.ensures c.if-not-has_room.false in
    let f = cells-short a.s.now _ _ there (no_room _ _ c.has_room-2.ensures c.if-not-has_room-2.true) in
    ap read_means (passed_on c.from_residual.ensures.1)
    ∙ ap bad (c.in_err-first_fault.ensures f.fault f.is)
    ∙ ap (map_read (cell_counts edges widths)) (sym f.is)
    ∙ row_is a.s.now a.h.columns a.at none c.cells_in-n.ensures.0 edges widths there

-- cells that don't all stand in the map have a fault
pub returns-then-not-has_room-2-clause-value : goal.returns-then-not-has_room-2-clause-value
returns-then-not-has_room-2-clause-value c =
    let a = c.args in
    let there = fits a.s.now a.h.columns a.at c.has_room.ensures c.if-not-has_room.false in
    let f = cells-short a.s.now _ _ there (no_room _ _ c.has_room-2.ensures c.if-not-has_room-2.true) in
    absurd (c.in_ok-first_fault.ensures f.fault f.is)

pub returns-then-boxes-eq0-clause-value : goal.returns-then-boxes-eq0-clause-value
returns-then-boxes-eq0-clause-value c =
    let a = c.args in
    let there = fits a.s.now a.h.columns a.at c.has_room.ensures c.if-not-has_room.false in
    let none = sym c.clear.ensures ∙ c.if-not-clear.false in
    let s = a.s.now in
    let edges = edges_of a.boxes.now in
    let widths = a.boxes.now.widths in
    let start = a.at + bit_map_bytes a.h.columns in
    let n = c.cells_in-n.result in
    let no_boxes : [] ≡ edges = rw c.if-boxes-eq0.true refl in
    c.bare_row.ensures.value widths
    ∙ ap (λ (l : List ℤ). map_read (cell_counts l widths) (read_cells s n start)) no_boxes
    ∙ row_is s a.h.columns a.at none c.cells_in-n.ensures.0 edges widths there

pub returns-then-boxes-eq0-clause-small : goal.returns-then-boxes-eq0-clause-small
returns-then-boxes-eq0-clause-small c =
    let a = c.args in
    let none = sym c.clear.ensures ∙ c.if-not-clear.false in
    counts_more (row-few a.s.now a.h.columns a.at none c.cells_in-n.ensures.0) c.bare_row.result c.bare_row.ensures.small

pub returns-clause-value : goal.returns-clause-value
returns-clause-value c =
    let a = c.args in
    let there = fits a.s.now a.h.columns a.at c.has_room.ensures c.if-not-has_room.false in
    let none = sym c.clear.ensures ∙ c.if-not-clear.false in
    c.boxed_row.ensures.value
    ∙ row_is a.s.now a.h.columns a.at none c.cells_in-n.ensures.0 (edges_of a.boxes.now) a.boxes.now.widths there

pub returns-clause-small : goal.returns-clause-small
returns-clause-small c =
    let a = c.args in
    let none = sym c.clear.ensures ∙ c.if-not-clear.false in
    counts_more (row-few a.s.now a.h.columns a.at none c.cells_in-n.ensures.0) c.boxed_row.result c.boxed_row.ensures.small
