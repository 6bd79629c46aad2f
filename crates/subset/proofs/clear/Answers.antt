-- `subset::clear`: the part that is filled holds the mark for none. Assumes nothing.
use Prim.Native.Nat.{◌+◌}
use mathlib.Core.Path.{◌≡◌, refl}
use native.Mathlib.Omega.{arith}
use lib.ListN.{length, take}
use lib.Seq.{length-take-le}
use Rattle.subset.proofs.FillLaws.{cleared}
use Rattle.subset.proofs.clear.Goals as goal

pub returns : goal.returns
returns c =
    let a = c.args in
    let f = c.fill in
    let size : length (take (a.slack + 1) a.table.now) ≡ a.slack + 1 = length-take-le (a.slack + 1) a.table.now (omega arith) in
    cleared 65535 a.slack a.table.now f.new.self c.requires (omega arith) (λ s h. f.ensures.clones s 0 (omega arith) refl)
