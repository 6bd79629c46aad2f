-- `rounds::make`: the rounds end with the last set, and then the choice is made, or 8. Assumes nothing.
use Prim.Native.Nat.{ℕ}
use mathlib.Core.Path.{◌≡◌, sym, ap, ◌∙◌}
use lib.Dec.{ltb}
use borrow.Author.Rules.{rules}
use Rattle.lists.proofs.Tests.{not-both}
use Rattle.ring.specs.Ring.{shown, fits}
use Rattle.rounds.specs.Footprint.{value, growing}
use Rattle.rounds.specs.Code.{Within, people_with}
use Rattle.rounds.proofs.LimitLaws.{within-limits, countable, people-most}
use Rattle.rounds.proofs.MakeLaws.{made-exact, last-small, last-most, last-over, slack-is, made-last}
use Rattle.rounds.proofs.make.Goals.{Else-not-allows}
use Rattle.rounds.proofs.make.Goals as goal

-- the limits, each by itself
within : (c : Else-not-allows) →
    let a = c.args in
    Within a.area.grid.rows a.area.grid.columns a.area.weight a.share.0 a.mask.now a.area.cells.now a.area.people.now
within c =
    let a = c.args in
    within-limits a.area.grid.rows a.area.grid.columns a.area.weight a.share.0 a.mask.now a.area.cells.now a.area.people.now
    (sym c.allows.ensures ∙ c.if-not-allows.false)

pub people_of-start-requires : goal.people_of-start-requires
people_of-start-requires c =
    let w = within (goal.at.people_of-start-requires c).Else-not-allows in
    countable w.limits c.args.mask.now w.masked

pub value-v-requires : goal.value-v-requires
unfolding people_with
value-v-requires c =
    let w = within (goal.at.value-v-requires c).Else-not-allows in
    (rw c.people_of-start.ensures (people-most w.limits (shown c.args.mask.now)), w.limits.light)

pub invariant_of-course : goal.invariant_of-course
invariant_of-course c = record { within = (within (goal.at.invariant_of-course c).Else-not-allows).limits }

pub rounds-requires-clause-within : goal.rounds-requires-clause-within
rounds-requires-clause-within c = within (goal.at.rounds-requires-clause-within c).Else-not-allows

pub rounds-requires-clause-grow_value : goal.rounds-requires-clause-grow_value
unfolding growing value people_with
rounds-requires-clause-grow_value c =
    let l : c.lt-grow.result ≡ ltb c.value-v.result.0 c.args.share.0 = search rules in
    l ∙ rw (c.value-v.ensures, c.people_of-start.ensures)

pub slack-requires : goal.slack-requires
slack-requires c =
    let w = within (goal.at.slack-requires c).Else-not-allows in
    (last-most w c.in-Some.ensures, last-over w c.in-Some.ensures)

pub finish-requires-clause-masked : goal.finish-requires-clause-masked
finish-requires-clause-masked c =
    let grid = c.args.area.grid in
    ap (λ (s : ℕ). fits grid.rows grid.columns s) c.rounds.auto.mask ∙ (within (goal.at.finish-requires-clause-masked c).Else-not-allows).masked

pub finish-requires-clause-marked : goal.finish-requires-clause-marked
finish-requires-clause-marked c = last-small (within (goal.at.finish-requires-clause-marked c).Else-not-allows) c.in-Some.ensures

pub returns-in-None : goal.returns-in-None
returns-in-None c =
    let w = within (goal.at.returns-in-None c).Else-not-allows in
    record {
      inside = λ _. made-exact w c.in-None.ensures c.args.table.now;
      outside = λ f. not-both (sym c.allows.ensures ∙ c.if-not-allows.false) f;
    }

pub returns-in-Some : goal.returns-in-Some
returns-in-Some c =
    let w = within (goal.at.returns-in-Some c).Else-not-allows in
    let d = c.finish in
    let e = c.slack.ensures.0 ∙ slack-is w c.in-Some.ensures in
    record {
      inside = λ _. made-last w c.in-Some.ensures d.result d.new.mask c.args.table.now d.new.table (rw e at d.ensures);
      outside = λ f. not-both (sym c.allows.ensures ∙ c.if-not-allows.false) f;
    }
