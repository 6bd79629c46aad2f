-- `map::rows_of`: the part between the area's start and its end, or an empty one. Assumes nothing.
use Rattle.std.proofs.Common.{◌≡◌, ℕ, ◌≤◌, List, length, Option, Some, Ok, ap, ◌∙◌}
use Rattle.map.proofs.Accepted.{looked-up, inside_of, part_by, part-is}
use Rattle.map.specs.declared.Area.{Area}
use Rattle.map.specs.Format.{read_map}
use Rattle.map.specs.Answers.{look_up, sought_means}
use Rattle.map.proofs.rows_of.Goals as goal

-- an area that was found lies inside the map
inside : (map : List ℕ) (number : ℕ) (a : Area) {f : Option Area} → f ≡ Some a → sought_means (Ok f) ≡ look_up number (read_map map)
    → (a.start ≤ a.end) × (a.end ≤ length map)
inside map number a e found = inside_of (looked-up map number a (rw e at found))

pub slice_bounds-result-count : goal.slice_bounds-result-count
slice_bounds-result-count c =
    let a = c.args in let f = c.in-Ok-Some in (inside a.map.now a.number f.a f.field-0-is f.ensures).0

pub slice_bounds-result-start : goal.slice_bounds-result-start
slice_bounds-result-start c =
    let a = c.args in let f = c.in-Ok-Some in (inside a.map.now a.number f.a f.field-0-is f.ensures).0

pub slice_bounds-result-end : goal.slice_bounds-result-end
slice_bounds-result-end c =
    let a = c.args in let f = c.in-Ok-Some in (inside a.map.now a.number f.a f.field-0-is f.ensures).1

pub returns-in-Ok-Some : goal.returns-in-Ok-Some
returns-in-Ok-Some c =
    let a = c.args in
    ap (part_by a.map.now) (rw c.in-Ok-Some.field-0-is at c.in-Ok-Some.ensures) ∙ part-is a.map.now a.number (read_map a.map.now)

pub returns-in-Ok-None : goal.returns-in-Ok-None
returns-in-Ok-None c =
    let a = c.args in
    ap (part_by a.map.now) (rw c.in-Ok-None.field-0-is at c.in-Ok-None.ensures) ∙ part-is a.map.now a.number (read_map a.map.now)

pub returns-in-Err : goal.returns-in-Err
returns-in-Err c =
    let a = c.args in
    ap (part_by a.map.now) c.in-Err.ensures ∙ part-is a.map.now a.number (read_map a.map.now)
