-- `proposal::parts::propose_from`: the search is asked about S, and what it finds is given to the areas. Assumes nothing.
use Rattle.std.proofs.Common.{◌≤◌, length, arith, refl, sym, subst}
use Rattle.std.specs.Prelude.{IsSome}
use Rattle.proposal.specs.Choices.{partials}
use Rattle.proposal.proofs.AnswerLaws.{too_many, asked, it-is, share-asks, proposes}
use Rattle.proposal.proofs.parts.propose_from.Goals as goal

pub returns-then-n-gt20 : goal.returns-then-n-gt20
returns-then-n-gt20 c = too_many c.args.areas.now c.args.draw (omega (arith, c.gather-gathered.ensures.count, c.if-n-gt20.true))

pub unwrap-found-requires : goal.unwrap-found-requires
unwrap-found-requires c =
    let a = c.args in
    let g = c.gather-gathered in
    let few : length (partials a.areas.now) ≤ 20 = omega (arith, g.ensures.count, c.if-n-gt20.false) in
    subst IsSome (sym (asked a.areas.now a.draw g.result g.ensures c.requires.limits few c.propose.ensures)) refl

pub share_at-share-requires : goal.share_at-share-requires
share_at-share-requires c =
    let a = c.args in
    let g = c.gather-gathered in
    let few : length (partials a.areas.now) ≤ 20 = omega (arith, g.ensures.count, c.if-n-gt20.false) in
    let q = asked a.areas.now a.draw g.result g.ensures c.requires.limits few c.propose.ensures in
    share-asks a.areas.now a.draw g.result g.ensures c.unwrap-found.result
    (it-is a.areas.now a.draw g.result g.ensures q c.unwrap-found.ensures)

pub returns : goal.returns
returns c =
    let a = c.args in
    let g = c.gather-gathered in
    let few : length (partials a.areas.now) ≤ 20 = omega (arith, g.ensures.count, c.if-n-gt20.false) in
    let q = asked a.areas.now a.draw g.result g.ensures c.requires.limits few c.propose.ensures in
    proposes a.areas.now a.draw g.result g.ensures few c.unwrap-found.result
    (it-is a.areas.now a.draw g.result g.ensures q c.unwrap-found.ensures)
    c.share_at-share.ensures refl refl refl refl refl c.settle-given.ensures
