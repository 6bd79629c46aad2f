-- `ring::settle`: each turn lends the row writer the part from the row's start on. Assumes nothing.
use mathlib.Core.Path.{sym, ◌∙◌}
use borrow.Author.Tests.{lt-ltb, le-ltb}
use mathlib.Core.Bool.{cond}
use lib.Dec.{eqb}
use Rattle.ring.specs.Ring.{settled}
use Rattle.ring.proofs.MarkLaws.{row-turned}
use Rattle.ring.proofs.settle.Goals as goal

pub loop-r-preserved : goal.loop-r-preserved
loop-r-preserved c =
    let grid = c.args.grid in
    row-turned (settled c.args.to) (λ b. cond (eqb b 2) c.args.to b) (λ n i b h. rw (lt-ltb i n h)) (λ n i b h. rw (le-ltb i n h))
    grid.rows grid.columns c.loop-r.r (sym c.fits.ensures ∙ c.if-fits.true) c.loop-r-test.true c.loop-r.invariant
    c.settle_row.new.part c.settle_row.auto.part c.settle_row.ensures
