-- `register::FlatLicence::standing` meets its contract: by the call sign. Assumes nothing.
use Rattle.std.proofs.Common.{ap}
use Rattle.std.specs.Prelude.{Some}
use Rattle.register.specs.Licences.{licence_of, standing}
use Rattle.register.proofs.Laws.{sign-is, sign-not}
use Rattle.register.proofs.FlatLicence.standing.Goals as goal

pub returns-then-self-eq0 : goal.returns-then-self-eq0
unfolding standing
returns-then-self-eq0 c = simp (sign-is 0 (licence_of c.args.self) c.if-self-eq0.true)

pub returns : goal.returns
unfolding standing
returns c = simp (sign-not 0 (licence_of c.args.self) c.if-self-eq0.false) (ap Some c.from.ensures)
