-- `rounds::Course::round`: the ring is marked, its people are counted, and it is settled or is the last ring. Assumes nothing.
use Prim.Native.Nat.{ℕ, ◌*◌}
use mathlib.Core.Path.{◌≡◌, refl, sym, ap, ◌∙◌}
use mathlib.Core.Bool.{Bool, true, false}
use mathlib.Core.List.{List}
use native.Mathlib.Omega.{arith}
use lib.Dec.{eqb}
use mir.Val.{bool_byte}
use lib.ListN.{length, get_or}
use borrow.Author.Tests.{eqb-true, eqb-false}
use Rattle.lists.specs.Sums.{flag, sum_below}
use Rattle.lists.proofs.Tests.{takes, leaves}
use Rattle.ring.specs.Ring.{Places, shown, fits}
use Rattle.rounds.specs.Footprint.{PartArea, places, value, ring_of, step, in_share}
use Rattle.rounds.specs.Promises.{part_of}
use Rattle.rounds.specs.Code.{people_with}
use Rattle.rounds.proofs.LimitLaws.{countable, people-most}
use Rattle.rounds.proofs.RoundLaws.{marks-are, Weighed, weighed, round-equal, round-last, round-made}
use Rattle.rounds.proofs.Course.round.Goals.{After-people_of-ring}
use Rattle.rounds.proofs.Course.round.Goals as goal

-- the people of the places with a byte, as a sum over a set
counted : (mask people : List ℕ) (n byte sum : ℕ) → sum ≡ people_with mask people n byte
    → sum ≡ sum_below (λ i. get_or people i 0) (λ i. eqb (get_or mask i 0) byte) n
unfolding people_with
counted mask people n byte sum e = e

-- V of a set, from its people
valued : (a : PartArea) (f : Places) (v sum : ℕ) → v ≡ 100 * a.weight * sum → sum ≡ sum_below a.people f (places a) → v ≡ value a f
unfolding value
valued a f v sum e p = e ∙ ap (λ (s : ℕ). 100 * a.weight * s) p

pub value-v-requires : goal.value-v-requires
value-v-requires c =
    let a = c.args in
    let m = part_of a.self.area in
    let p = counted a.mask.now a.self.area.people.now (places m) 1 a.sum.0 c.requires.sum_value in
    (rw p (people-most a.self.within (shown a.mask.now)), omega (arith, a.self.within.light))

pub returns-then-eq : goal.returns-then-eq
returns-then-eq c =
    let a = c.args in
    let m = part_of a.self.area in
    let p = counted a.mask.now a.self.area.people.now (places m) 1 a.sum.0 c.requires.sum_value in
    round-equal m a.self.share.0 a.self.grow a.mask.now
    (sym (valued m (shown a.mask.now) c.value-v.result.0 a.sum.0 c.value-v.ensures p)
    ∙ eqb-true c.value-v.result.0 a.self.share.0 (sym c.eq.ensures ∙ c.if-eq.true))

pub people_of-ring-requires : goal.people_of-ring-requires
people_of-ring-requires c =
    let grid = c.args.self.area.grid in
    let long = c.form.auto.mask in
    countable c.args.self.within c.form.new.mask
    (ap (λ (n : ℕ). fits grid.rows grid.columns n) long ∙ c.requires.within.masked)

-- what is known after the ring is counted
known : (c : After-people_of-ring) →
    let a = c.args in
    Weighed (part_of a.self.area) a.self.grow (shown a.mask.now) a.sum.0 c.people_of-ring.result.0
known c =
    let a = c.args in
    let m = part_of a.self.area in
    let people = a.self.area.people.now in
    let w = c.requires.within in
    weighed m a.self.grow a.mask.now c.form.new.mask w.plain (marks-are w a.self.grow c.form.new.mask c.form.ensures)
    a.sum.0 c.people_of-ring.result.0 (counted a.mask.now people (places m) 1 a.sum.0 c.requires.sum_value)
    (counted c.form.new.mask people (places m) 2 c.people_of-ring.result.0 c.people_of-ring.ensures)

-- V of the set is not the share
unequal : (c : After-people_of-ring) →
    let a = c.args in value (part_of a.self.area) (shown a.mask.now) ≡ a.self.share.0 → ⊥
unequal c e =
    let a = c.args in
    eqb-false c.value-v.result.0 a.self.share.0 (sym c.eq.ensures ∙ c.if-eq.false)
    (valued (part_of a.self.area) (shown a.mask.now) c.value-v.result.0 a.sum.0 c.value-v.ensures (known c).set ∙ e)

pub next_people-next-requires : goal.next_people-next-requires
next_people-next-requires c =
    let a = c.args in
    let m = part_of a.self.area in
    let f = shown a.mask.now in
    let k = known (goal.at.next_people-next-requires c).After-people_of-ring in (
      rw k.set (people-most a.self.within f),
      rw k.counted (people-most a.self.within (ring_of m a.self.grow f)),
    )

pub value-requires : goal.value-requires
value-requires c =
    let a = c.args in
    let m = part_of a.self.area in
    let f = shown a.mask.now in
    let k = known (goal.at.value-requires c).After-people_of-ring in
    (rw (c.next_people-next.ensures ∙ k.next) (people-most a.self.within (step a.self.grow f (ring_of m a.self.grow f))), a.self.within.light)

pub returns-then-self : goal.returns-then-self
returns-then-self c =
    let a = c.args in
    let m = part_of a.self.area in
    let f = shown a.mask.now in
    let w = c.requires.within in
    let r = (goal.at.returns-then-self c).After-people_of-ring in
    let k = known r in
    -- the people and V of the next set
    let n = c.next_people-next.ensures ∙ k.next in
    let v = valued m (step a.self.grow f (ring_of m a.self.grow f)) c.value.result.0 c.next_people-next.result.0 c.value.ensures n in
    round-last m a.self.share.0 a.self.grow a.mask.now c.form.new.mask w.plain (marks-are w a.self.grow c.form.new.mask c.form.ensures)
    (unequal r) c.next_people-next.result
    (sym (c.in_share.ensures ∙ ap (λ (u : ℕ). in_share a.self.grow u a.self.share.0) v) ∙ c.if-not-in_share.true)
    (n ∙ takes _ c.if-self.true)

pub returns-else-self : goal.returns-else-self
returns-else-self c =
    let a = c.args in
    let m = part_of a.self.area in
    let f = shown a.mask.now in
    let w = c.requires.within in
    let r = (goal.at.returns-else-self c).After-people_of-ring in
    let k = known r in
    -- the people and V of the next set
    let n = c.next_people-next.ensures ∙ k.next in
    let v = valued m (step a.self.grow f (ring_of m a.self.grow f)) c.value.result.0 c.next_people-next.result.0 c.value.ensures n in
    round-last m a.self.share.0 a.self.grow a.mask.now c.form.new.mask w.plain (marks-are w a.self.grow c.form.new.mask c.form.ensures)
    (unequal r) a.sum
    (sym (c.in_share.ensures ∙ ap (λ (u : ℕ). in_share a.self.grow u a.self.share.0) v) ∙ c.if-not-in_share.true)
    (k.set ∙ leaves _ c.if-self.false)

-- the byte that a flag is
byte-of : (grow : Bool) → bool_byte grow ≡ flag grow
byte-of true = refl
byte-of false = refl

pub returns : goal.returns
returns c =
    let a = c.args in
    let m = part_of a.self.area in
    let f = shown a.mask.now in
    let w = c.requires.within in
    let grid = a.self.area.grid in
    let r = (goal.at.returns c).After-people_of-ring in
    let k = known r in
    -- the people and V of the next set
    let n = c.next_people-next.ensures ∙ k.next in
    let v = valued m (step a.self.grow f (ring_of m a.self.grow f)) c.value.result.0 c.next_people-next.result.0 c.value.ensures n in
    let room : fits grid.rows grid.columns (length c.form.new.mask) ≡ true =
    ap (λ (s : ℕ). fits grid.rows grid.columns s) c.form.auto.mask ∙ w.masked in
    round-made m a.self.share.0 a.self.grow a.mask.now c.form.new.mask w.plain (marks-are w a.self.grow c.form.new.mask c.form.ensures)
    (unequal r) c.next_people-next.result c.settle.new.mask
    (sym (c.in_share.ensures ∙ ap (λ (u : ℕ). in_share a.self.grow u a.self.share.0) v) ∙ c.if-not-in_share.false) n
    (λ i. c.settle.ensures i ∙ rw (room, c.from.ensures, byte-of a.self.grow))
