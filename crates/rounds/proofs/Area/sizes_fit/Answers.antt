-- `rounds::Area::sizes_fit`: sizes that fit have few places. Assumes nothing.
use mathlib.Core.Path.{sym, ◌∙◌}
use native.Mathlib.Omega.{arith}
use Rattle.lists.proofs.Tests.{not-both}
use Rattle.ring.proofs.RingLaws.{fits_in, few-places}
use Rattle.rounds.proofs.Area.sizes_fit.Goals.{then-fits, else-fits}
use Rattle.rounds.proofs.Area.sizes_fit.Goals as goal

pub overflow_mul-self : goal.overflow_mul-self
overflow_mul-self c =
    let t = c.if-fits-2.true in
    elim c.if-fits.branch [
      | then-fits w ↦ record { fits = omega (arith, few-places _ _ _ (fits_in _ _ _ (sym w.fits-then-fits.ensures ∙ sym w.value-is ∙ t))) }
      | else-fits w ↦ not-both t (w.value-is ∙ w.if-fits.false)
    ]
