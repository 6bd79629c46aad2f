-- `rounds::Area::allows`: the tests in turn are the definition's. Assumes nothing.
use Prim.Native.Nat.{ℕ, ◌*◌, ◌≤◌}
use mathlib.Core.Path.{◌≡◌, sym, ◌∙◌}
use native.Mathlib.Omega.{arith}
use lib.ListN.{length, take}
use lib.Seq.{length-take-le}
use lib.Dec.{ltb}
use Rattle.std.proofs.Common.{rules, tests}
use Rattle.std.proofs.lemmas.Iterator.{YieldsList-from_slice}
use Rattle.std.proofs.lemmas.Iterator.Search.{any_from_yields_List}
use borrow.Author.Tests.{le-leb, lt-ltb}
use Rattle.ring.specs.Ring.{shown}
use Rattle.ring.proofs.RingLaws.{fits_in}
use Rattle.rounds.specs.Footprint.{value}
use Rattle.rounds.specs.Code.{people_with, some_above}
use Rattle.rounds.proofs.LimitLaws.{any_above, SizesFit, sizes-in, limits-are, none_above, set-most}
use Rattle.rounds.proofs.Area.allows.Goals.{Else-not-sizes_fit, After-any-marked, After-any-crowded}
use Rattle.rounds.proofs.Area.allows.Goals as goal

-- the sizes, each by itself
sized : (c : Else-not-sizes_fit) →
    let a = c.args in
    SizesFit a.self.grid.rows a.self.grid.columns a.mask.now a.self.cells.now a.self.people.now
sized c =
    let a = c.args in
    sizes-in a.self.grid.rows a.self.grid.columns a.mask.now a.self.cells.now a.self.people.now
    (sym c.sizes_fit.ensures ∙ c.if-not-sizes_fit.false)

pub overflow_mul-n : goal.overflow_mul-n
overflow_mul-n c = omega (arith, (sized (goal.at.overflow_mul-n c).Else-not-sizes_fit).numbered)

-- the bytes have a place each
long : (c : Else-not-sizes_fit) → c.args.self.grid.rows * c.args.self.grid.columns ≤ length c.args.mask.now
long c = (fits_in c.args.self.grid.rows c.args.self.grid.columns (length c.args.mask.now) (sized c).masked).long

pub slice_bounds-iter-end : goal.slice_bounds-iter-end
slice_bounds-iter-end c = sym (length-take-le _ c.args.mask.now (long (goal.at.slice_bounds-iter-end c).Else-not-sizes_fit))

-- whether some byte is a mark, and whether some place has more people than the limit
marked : (c : After-any-marked) →
    let a = c.args in
    let n = a.self.grid.rows * a.self.grid.columns in
    n ≤ length a.mask.now → c.any-marked.result ≡ some_above 1 a.mask.now n
marked c h =
    let a = c.args in
    let n = a.self.grid.rows * a.self.grid.columns in
    any_from_yields_List (λ (x : ℕ). ltb 1 x) _ _ c.any-marked.result c.any-marked.ensures.ran
    (YieldsList-from_slice (take n a.mask.now) c.iter.ensures.rest) (λ x b q k. search (rules, tests))
    ∙ any_above 1 a.mask.now n h

crowded : (c : After-any-crowded) →
    let a = c.args in
    let n = a.self.grid.rows * a.self.grid.columns in
    n ≤ length a.self.people.now → c.any-crowded.result ≡ some_above 1_000_000 a.self.people.now n
crowded c h =
    let a = c.args in
    let n = a.self.grid.rows * a.self.grid.columns in
    any_from_yields_List (λ (x : ℕ). ltb 1_000_000 x) _ _ c.any-crowded.result c.any-crowded.ensures.ran
    (YieldsList-from_slice (take n a.self.people.now) c.iter-2.ensures.rest) (λ x b q k. search (rules, tests))
    ∙ any_above 1_000_000 a.self.people.now n h

pub returns-then-marked : goal.returns-then-marked
returns-then-marked c =
    let a = c.args in
    let some = (goal.at.returns-then-marked c).After-any-marked in
    let sizes = (goal.at.returns-then-marked c).Else-not-sizes_fit in
    rw (
      limits-are a.self.grid.rows a.self.grid.columns a.self.weight a.share.0 a.mask.now a.self.cells.now a.self.people.now,
      sym c.sizes_fit.ensures ∙ c.if-not-sizes_fit.false,
      le-leb 1 a.self.weight c.if-self-lt1.false,
      le-leb a.self.weight 65535 c.if-self-gt65535.false,
      sym (marked some (long sizes)) ∙ c.if-marked.true,
    )

pub returns-then-crowded : goal.returns-then-crowded
returns-then-crowded c =
    let a = c.args in
    let none = (goal.at.returns-then-crowded c).After-any-marked in
    let some = (goal.at.returns-then-crowded c).After-any-crowded in
    let sizes = (goal.at.returns-then-crowded c).Else-not-sizes_fit in
    rw (
      limits-are a.self.grid.rows a.self.grid.columns a.self.weight a.share.0 a.mask.now a.self.cells.now a.self.people.now,
      sym c.sizes_fit.ensures ∙ c.if-not-sizes_fit.false,
      le-leb 1 a.self.weight c.if-self-lt1.false,
      le-leb a.self.weight 65535 c.if-self-gt65535.false,
      sym (marked none (long sizes)) ∙ c.if-marked.false,
      sym (crowded some (sized sizes).counted) ∙ c.if-crowded.true,
    )

pub people_of-requires : goal.people_of-requires
people_of-requires c =
    let a = c.args in
    let s = sized (goal.at.people_of-requires c).Else-not-sizes_fit in
    record {
      long = (fits_in a.self.grid.rows a.self.grid.columns (length a.self.cells.now) s.celled).long;
      counted = s.counted;
      numbered = s.numbered;
      few = none_above 1_000_000 a.self.people.now (a.self.grid.rows * a.self.grid.columns)
          (sym (crowded (goal.at.people_of-requires c).After-any-crowded s.counted) ∙ c.if-crowded.false);
    }

pub value-requires : goal.value-requires
unfolding people_with
value-requires c =
    let a = c.args in
    let n = a.self.grid.rows * a.self.grid.columns in
    let s = sized (goal.at.value-requires c).Else-not-sizes_fit in
    let few = none_above 1_000_000 a.self.people.now n
    (sym (crowded (goal.at.value-requires c).After-any-crowded s.counted) ∙ c.if-crowded.false) in
    (rw c.people_of.ensures (set-most a.self.people.now (shown a.self.cells.now) n few s.numbered), c.if-self-gt65535.false)

pub returns-then-share-gt0 : goal.returns-then-share-gt0
unfolding value people_with
returns-then-share-gt0 c =
    let a = c.args in
    let none = (goal.at.returns-then-share-gt0 c).After-any-marked in
    let some = (goal.at.returns-then-share-gt0 c).After-any-crowded in
    let sizes = (goal.at.returns-then-share-gt0 c).Else-not-sizes_fit in
    let l : c.lt.result ≡ ltb a.share.0 c.value.result.0 = search rules in
    l ∙ rw (
      limits-are a.self.grid.rows a.self.grid.columns a.self.weight a.share.0 a.mask.now a.self.cells.now a.self.people.now,
      sym c.sizes_fit.ensures ∙ c.if-not-sizes_fit.false,
      le-leb 1 a.self.weight c.if-self-lt1.false,
      le-leb a.self.weight 65535 c.if-self-gt65535.false,
      sym (marked none (long sizes)) ∙ c.if-marked.false,
      sym (crowded some (sized sizes).counted) ∙ c.if-crowded.false,
      lt-ltb 0 a.share.0 c.if-share-gt0.true,
      c.value.ensures,
      c.people_of.ensures,
    )
