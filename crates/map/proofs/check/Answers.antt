-- `map::check`: what a look-up of any number says of the map. Assumes nothing.
use Rattle.std.proofs.Common.{ap, ◌∙◌}
use Rattle.map.proofs.FieldLaws.{passed_on}
use Rattle.map.proofs.AreaLaws.{looked_number, number_is, accepted}
use Rattle.map.specs.Format.{read_map}
use Rattle.map.specs.Answers.{checked_number}
use Rattle.map.proofs.check.Goals as goal

pub returns-in_err-look_up : goal.returns-in_err-look_up
returns-in_err-look_up c =
    ap checked_number (passed_on c.from_residual.ensures.1) ∙ ap looked_number c.in_err-look_up.ensures ∙ number_is 0 (read_map c.args.map.now)

pub returns : goal.returns
returns c =
    accepted c.in_ok-look_up.field-0 ∙ ap looked_number c.in_ok-look_up.ensures ∙ number_is 0 (read_map c.args.map.now)
