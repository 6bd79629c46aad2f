-- `subset::choose`: the greatest sum that has an entry is the greatest sum, and the places in the table are enough. Assumes nothing.
use mathlib.Core.Path.{ap, ◌∙◌}
use mathlib.Core.Bool.{Bool}
use lib.ListN.{get_or}
use lib.Dec.{lit<}
use Rattle.subset.specs.Table.{strike}
use Rattle.subset.proofs.EntryLaws.{found}
use Rattle.subset.proofs.choose.Goals as goal

pub read_back-requires : goal.read_back-requires
read_back-requires c = (found (lit< tt) c.requires c.fill-k.ensures c.fill-k.auto.table c.greatest-s.ensures).0

pub returns-clause-marks : goal.returns-clause-marks
returns-clause-marks c =
    let f = found (lit< tt) c.requires c.fill-k.ensures c.fill-k.auto.table c.greatest-s.ensures in
    λ i. c.read_back.ensures i ∙ ap (λ (b : Bool). strike b (get_or c.args.mask.now i 0)) (f.1 i)

pub returns-clause-rest : goal.returns-clause-rest
returns-clause-rest c = c.fill-k.ensures.filled.others
