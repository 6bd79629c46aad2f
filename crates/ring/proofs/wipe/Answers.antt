-- `ring::wipe`: each turn lends the row writer the part from the row's start on. Assumes nothing.
use mathlib.Core.Path.{sym, ◌∙◌}
use borrow.Author.Tests.{lt-ltb, le-ltb}
use Rattle.ring.specs.Ring.{wiped}
use Rattle.ring.proofs.MarkLaws.{row-turned}
use Rattle.ring.proofs.wipe.Goals as goal

pub loop-r-preserved : goal.loop-r-preserved
loop-r-preserved c =
    let grid = c.args.grid in
    row-turned wiped (λ b. 0) (λ n i b h. rw (lt-ltb i n h)) (λ n i b h. rw (le-ltb i n h))
    grid.rows grid.columns c.loop-r.r (sym c.fits.ensures ∙ c.if-fits.true) c.loop-r-test.true c.loop-r.invariant
    c.wipe_row.new.part c.wipe_row.auto.part c.wipe_row.ensures
