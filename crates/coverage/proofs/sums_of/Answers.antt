-- `coverage::sums_of` meets its contract: each unit by its own product and sum. Assumes nothing.
use Prim.Native.Nat.{ℕ, ◌+◌}
use mathlib.Core.Path.{ap, ◌∙◌}
use Rattle.units.specs.Sums.{capped}
use Rattle.coverage.proofs.sums_of.Goals as goal

pub returns : goal.returns
returns c =
    let a = c.args in
    let pops = c.plus.ensures
    ∙ ap (λ (n : ℕ). capped (n + a.counts.boxed_mhz_pops.0)) c.mhz_pops.ensures in
    let cells = c.plus-2.ensures ∙ ap (λ (n : ℕ). capped (n + a.counts.boxed_cells.0)) c.times.ensures in
    λ i. record { mhz_pops = record { 0 = pops i }; cells = record { 0 = cells i } }
