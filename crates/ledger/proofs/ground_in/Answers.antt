-- `ledger::ground_in`: the third word says which ground it is, and an edge is read back from its bits. Assumes nothing.
use mathlib.Core.Path.{◌∙◌}
use Rattle.register.specs.declared.Ground.TheVariants as ground
use lib.ListN.{get_or}
use mir.Syntax.{w32}
use mir.Facts.{to_z-of_z}
use borrow.Author.Tests.{eq-eqb, ne_eqb}
use Rattle.map.proofs.SignedLaws.{signed_is}
use Rattle.ledger.specs.Played.{ground_at}
use Rattle.ledger.proofs.ground_in.Goals as goal

pub returns-then-item-eq0 : goal.returns-then-item-eq0
unfolding ground_at
returns-then-item-eq0 c = rw (eq-eqb (get_or c.args.item.now 2 0) 0 c.if-item-eq0.true)

pub returns : goal.returns
unfolding ground_at
returns c =
    rw (ne_eqb (get_or c.args.item.now 2 0) 0 c.if-item-eq0.false)
    (λ i. ground.Box (record {
      south = (to_z-of_z {w = w32} (record { sfits = c.cast_signed.type_inv }) ∙ c.cast_signed.ensures ∙ signed_is _) i;
      north = (to_z-of_z {w = w32} (record { sfits = c.cast_signed-2.type_inv }) ∙ c.cast_signed-2.ensures ∙ signed_is _) i;
      west = (to_z-of_z {w = w32} (record { sfits = c.cast_signed-3.type_inv }) ∙ c.cast_signed-3.ensures ∙ signed_is _) i;
      east = (to_z-of_z {w = w32} (record { sfits = c.cast_signed-4.type_inv }) ∙ c.cast_signed-4.ensures ∙ signed_is _) i;
    }))
