-- `register::Register::edges` meets its contract: the four edges of a box a turn. Assumes nothing.
use mathlib.Core.Path.{◌≡◌, ap, ◌∙◌}
use mir.Syntax.{w32}
use mir.Val.{to_z, of_z}
use borrow.Author.Rules.{rules}
use Rattle.register.specs.declared.GeoBox.{GeoBox}
use Rattle.std.specs.Prelude.{unwrap_or}
use lib.ListN.{get_or}
use Rattle.register.specs.Licences.{free_place}
use Rattle.register.specs.Grounds.{no_box}
use Rattle.register.proofs.GroundLaws.{box-given, fill-starts, fill-turns, fill-ends}
use Rattle.register.proofs.Register.edges.Goals as goal

pub loop-i-init : goal.loop-i-init
loop-i-init c = fill-starts c.args.self.places c.args.count

pub loop-i-preserved : goal.loop-i-preserved
loop-i-preserved c =
    let b = c.unwrap_or-b.result in
    let south : to_z w32 (of_z w32 b.south) ≡ b.south = search rules in
    let north : to_z w32 (of_z w32 b.north) ≡ b.north = search rules in
    let west : to_z w32 (of_z w32 b.west) ≡ b.west = search rules in
    let east : to_z w32 (of_z w32 b.east) ≡ b.east = search rules in
    let read : GeoBox = record {
      south = to_z w32 (of_z w32 b.south);
      north = to_z w32 (of_z w32 b.north);
      west = to_z w32 (of_z w32 b.west);
      east = to_z w32 (of_z w32 b.east);
    } in
    let same : read ≡ b = λ i. record { south = south i; north = north i; west = west i; east = east i } in
    fill-turns c.loop-i.invariant {b = read} c.requires c.loop-i-test.true
    (same ∙ c.unwrap_or-b.ensures ∙ ap (λ o. unwrap_or o no_box) c.geo_box.ensures
    ∙ box-given (get_or c.args.self.places c.loop-i.i free_place))

pub returns : goal.returns
returns c = fill-ends c.loop-i.invariant c.loop-i-test.false
