-- `register::well_formed` meets its contract: the three tests of the definition. Assumes nothing.
use Rattle.std.proofs.Common.{◌&&◌, not, eqb}
use Rattle.register.specs.Licences.{well_formed}
use Rattle.register.proofs.well_formed.Goals as goal

pub returns : goal.returns
unfolding well_formed
returns c = λ i. not (eqb c.args.l.call_sign 0) && c.ground_formed.ensures i && c.width_formed.ensures i
