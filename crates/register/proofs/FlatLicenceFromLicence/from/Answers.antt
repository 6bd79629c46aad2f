-- A licence becomes the place that it takes: by the two kinds of ground. Assumes nothing.
use mathlib.Core.Path.{◌≡◌, sym, ◌∙◌}
use mir.Syntax.{w32}
use mir.Val.{to_z, of_z}
use borrow.Author.Rules.{rules}
use Rattle.register.specs.declared.Ground.TheVariants.{Box}
use Rattle.register.specs.Licences.{flat_on, flat_of}
use Rattle.register.proofs.FlatLicenceFromLicence.from.Goals as goal

pub returns-in-Area : goal.returns-in-Area
unfolding flat_of
returns-in-Area c =
    let l = c.args.l in
    λ i. flat_on l.call_sign (c.narrower_by.ensures i) (sym c.in-Area.is i)

pub returns-in-Box : goal.returns-in-Box
unfolding flat_of
returns-in-Box c =
    let l = c.args.l in
    let m = c.narrower_by in
    let b = c.in-Box.b in
    let south : to_z w32 (of_z w32 b.south) ≡ b.south = search rules in
    let north : to_z w32 (of_z w32 b.north) ≡ b.north = search rules in
    let west : to_z w32 (of_z w32 b.west) ≡ b.west = search rules in
    let east : to_z w32 (of_z w32 b.east) ≡ b.east = search rules in
    (λ i. flat_on l.call_sign m.result (Box (record { south = south i; north = north i; west = west i; east = east i })))
    ∙ (λ i. flat_on l.call_sign (m.ensures i) (sym c.in-Box.is i))
