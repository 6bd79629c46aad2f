-- `coverage::Holding::blocks_within` meets its contract: by its two tests; within the limits no product stops. Assumes nothing.
use Prim.Native.Nat.{ℕ, ◌*◌, ◌≤◌, ◌<◌}
use mathlib.Core.Path.{ap, ◌∙◌}
use native.Mathlib.Omega.{arith}
use native.Mathlib.Nat.{div-le_of_le-mul}
use borrow.Author.Rules.{rules}
use Rattle.units.specs.Sums.{capped}
use Rattle.coverage.proofs.BlockLaws.{
  mhz-pops-exact,
  value-exact,
  size_exact,
  rest-is,
  blocks-up,
  blocks-even,
  blocks-part,
}
use Rattle.coverage.proofs.Holding.blocks_within.Goals as goal

pub nonzero_div-whole : goal.nonzero_div-whole
nonzero_div-whole c =
    let w = c.requires in
    omega (arith, mhz-pops-exact w {k = 100} (omega arith) c.mhz_pops-block.ensures, w.peopled)

pub nonzero_rem-rest : goal.nonzero_rem-rest
nonzero_rem-rest c =
    let w = c.requires in
    omega (arith, mhz-pops-exact w {k = 100} (omega arith) c.mhz_pops-block.ensures, w.peopled)

pub overflow_add-result : goal.overflow_add-result
overflow_add-result c =
    let w = c.requires in
    let covered = c.args.self.covered.0 in
    let block = c.mhz_pops-block.result.0 in
    let two : 2 ≤ block = omega (arith, mhz-pops-exact w {k = 100} (omega arith) c.mhz_pops-block.ensures, w.peopled) in
    let largest : covered < 18446744073709551616 = search rules in
    let half = div-le_of_le-mul block {m = covered} {n = 9223372036854775808} (omega (arith, two)) in
    record { fits = omega (arith, half) }

pub returns-then-le : goal.returns-then-le
returns-then-le c =
    let w = c.requires in
    blocks-up c.args.self (mhz-pops-exact w (omega arith) c.mhz_pops-block.ensures)
    (mhz-pops-exact w (omega arith) c.mhz_pops-nearly.ensures)
    (search rules)

pub returns-then-rest-eq0 : goal.returns-then-rest-eq0
returns-then-rest-eq0 c =
    let w = c.requires in
    blocks-even c.args.self (mhz-pops-exact w (omega arith) c.mhz_pops-block.ensures)
    (mhz-pops-exact w (omega arith) c.mhz_pops-nearly.ensures)
    (search rules) c.if-rest-eq0.true

pub returns : goal.returns
returns c =
    let w = c.requires in
    let h = c.args.self in
    let block = mhz-pops-exact w (omega arith) c.mhz_pops-block.ensures in
    let nearly = mhz-pops-exact w (omega arith) c.mhz_pops-nearly.ensures in
    blocks-part h block nearly (search rules) c.if-rest-eq0.false
    (value-exact w (c.weighted.ensures ∙ ap (λ (r : ℕ). capped (h.weight * r)) (rest-is h block nearly)))
    (size_exact w c.weighted-2.ensures)
