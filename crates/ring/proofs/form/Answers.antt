-- `ring::form`: growing, no cell neighbours the set. Assumes nothing.
use mathlib.Core.Path.{◌≡◌, sym, ◌∙◌}
use mathlib.Core.Bool.{true}
use Prim.Native.Nat.{◌*◌}
use lib.ListN.{length}
use Rattle.ring.specs.Ring.{shown, fits}
use Rattle.ring.proofs.MarkLaws.{ring_second}
use Rattle.ring.proofs.form.Goals as goal

pub returns-then-not-mark_rows : goal.returns-then-not-mark_rows
returns-then-not-mark_rows c =
    let a = c.args in
    let first = c.mark_rows-else-not-grow in
    let second = c.mark_rows-then-not-mark_rows in
    let masked : fits a.grid.rows a.grid.columns (length a.mask.now) ≡ true = sym c.fits.ensures ∙ c.if-not-fits.false in
    let celled : fits a.grid.rows a.grid.columns (length a.cells.now) ≡ true = sym c.fits-else-not-fits.ensures ∙ c.if-not-fits-2.false in
    λ i. rw (masked, celled, c.if-not-grow.false)
    (ring_second (shown a.cells.now) (a.grid.rows * a.grid.columns) a.grid.columns a.mask.now first.new.mask second.new.mask
    first.ensures.bytes (sym first.ensures.told ∙ c.if-not-mark_rows.true) second.ensures.bytes i)
