-- `map::parts::clear`: at bit j, the bits before it are 0. Assumes nothing.
use Rattle.std.proofs.Common.{◌≡◌, ◌-◌}
use Rattle.map.specs.Format.{clear_from}
use Rattle.map.proofs.parts.clear.Given as goal

abbrev pub invariant-loop-j : goal.invariant-loop-j
invariant-loop-j l = clear_from l.s l.bits l.from (l.to - l.from) ≡ clear_from l.s l.bits l.j (l.to - l.j)
