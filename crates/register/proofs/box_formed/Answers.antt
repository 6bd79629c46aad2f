-- `register::box_formed`: the six tests of the definition, on edges read back from their bits. Assumes nothing.
use mathlib.Core.Path.{◌≡◌, ap, ◌∙◌}
use mathlib.Core.Bool.{◌&&◌}
use lib.Signed.{lt_z}
use mir.Syntax.{w32}
use mir.Val.{to_z, of_z}
use Rattle.units.specs.Coordinates.{is_latitude, is_longitude}
use Rattle.register.specs.Licences.{box_formed}
use borrow.Author.Rules.{rules}
use Rattle.register.proofs.box_formed.Goals as goal

pub returns : goal.returns
unfolding box_formed
returns c =
    let b = c.args.b in
    let south : to_z w32 (of_z w32 b.south) ≡ b.south = search rules in
    let north : to_z w32 (of_z w32 b.north) ≡ b.north = search rules in
    let west : to_z w32 (of_z w32 b.west) ≡ b.west = search rules in
    let east : to_z w32 (of_z w32 b.east) ≡ b.east = search rules in
    λ i. lt_z (south i) (north i)
    && lt_z (west i) (east i)
    && (c.in_range.ensures ∙ ap is_latitude south) i
    && (c.in_range-2.ensures ∙ ap is_latitude north) i
    && (c.in_range-3.ensures ∙ ap is_longitude west) i
    && (c.in_range-4.ensures ∙ ap is_longitude east) i
