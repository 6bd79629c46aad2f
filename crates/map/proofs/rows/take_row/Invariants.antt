-- `map::rows::take_row`: at cell k, the fields of the cells before it are laid. Assumes nothing.
use Rattle.std.proofs.Common.{◌≡◌, ◌+◌, ◌*◌, pos}
use Rattle.lists.proofs.InPlace.{Filled}
use Rattle.map.specs.Cells.{cell_at}
use Rattle.map.proofs.rows.take_row.Given as goal

abbrev pub invariant-loop-k : goal.invariant-loop-k
invariant-loop-k l =
    (l.row.count ≡ l.n)
    × Filled (λ j. (cell_at l.s (l.at + 12 * j)).people) 0 l.initial.row.people l.row.people l.k
    × Filled (λ j. (cell_at l.s (l.at + 12 * j)).latitude) (pos 0) l.initial.row.latitudes l.row.latitudes l.k
    × Filled (λ j. (cell_at l.s (l.at + 12 * j)).longitude) (pos 0) l.initial.row.longitudes l.row.longitudes l.k
