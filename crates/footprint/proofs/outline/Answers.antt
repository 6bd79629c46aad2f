-- `footprint::outline`: the cells laid out by place and the rounds over them give the footprint of the area. Assumes nothing.
use Prim.Native.Nat.{ℕ, ◌*◌, ◌<◌}
use mathlib.Core.Path.{◌≡◌, refl, subst}
use lib.ListN.{length, replicate, length-replicate}
use Rattle.std.proofs.lemmas.Result.{err_from_is_err_and}
use Rattle.boxes.specs.Boxes.{edges_of}
use Rattle.map.specs.declared.Area as handed
use Rattle.register.specs.Licences.{in_force}
use Rattle.coverage.proofs.CoverLaws.{naming-is, covered-some}
use Rattle.map.specs.Format.{Area}
use Rattle.map.specs.Answers.{summary}
use Rattle.map.specs.Accepted.{AreaHolds}
use Rattle.rounds.specs.Promises.{Answer}
use Rattle.footprint.specs.Footprint.{part_area, covered_cells, footprint_of}
use Rattle.footprint.specs.Code.{Buffers, Comes, Fits, told_by}
use Rattle.footprint.proofs.OutlineLaws.{Outlined, outlined-by, too_short}
use Rattle.footprint.proofs.outline.Goals as goal
use Rattle.footprint.proofs.outline.Goals.{After-make}

pub returns-then-mask-a : goal.returns-then-mask-a
returns-then-mask-a c =
    λ a e h f. (
    let b : Buffers = record {
      mask = c.args.mask.now;
      after = c.args.mask.now;
      table = c.args.table.now;
      entries = c.args.table.now;
    } in
    too_short (in_force c.args.register.places) c.args.share.0 a b
    (subst (λ (x : handed.Area). length c.args.mask.now < x.rows * x.columns) e c.if-mask-a.true) refl refl)

abbrev buffers : After-make → Buffers
buffers c = record {
  mask = c.args.mask.now;
  after = c.make.new.mask;
  table = c.args.table.now;
  entries = c.make.new.table;
}

outlined : (c : After-make) → Outlined c.args.map.now (in_force c.args.register.places) c.args.share.0 c.args.a c.make.result (buffers c)
outlined c =
    let laid = c.lay_out in
    let boxes = c.boxes-boxes in
    record {
      always = c.naming-always.result.licences;
      edges = edges_of boxes.result;
      over = covered-some boxes.ensures c.args.a.number (naming-is c.naming-always.ensures);
      before = record { people = replicate 16384 0; cells = replicate 16384 0; mask = c.args.mask.now };
      after = record { people = laid.new.people; cells = laid.new.cells; mask = laid.new.mask };
      room = c.if-mask-a.false;
      lent = refl;
      people-lent = length-replicate {A = ℕ} 16384 0;
      cells-lent = length-replicate {A = ℕ} 16384 0;
      laid = laid.ensures;
      mask-kept = laid.auto.mask;
      people-kept = laid.auto.people;
      cells-kept = laid.auto.cells;
      made = c.make.ensures;
      after_kept = c.make.auto.mask;
      entries-kept = c.make.auto.table;
    }

-- so the answer of the rounds is told for the area of the map
abbrev Given : (c : After-make) → Area → Answer → Type 0
Given c a r =
    Comes (footprint_of a.head.number (part_area a) c.args.share.0 (covered_cells (in_force c.args.register.places) a))
    (told_by c.args.a.number r) (buffers c)

given : (c : After-make) (a : Area) → c.args.a ≡ summary a → AreaHolds c.args.map.now a
    → Fits (in_force c.args.register.places) c.args.share.0 a → Given c a c.make.result
given c a e h f =
    outlined-by h (in_force c.args.register.places) c.args.share.0 f c.make.result (buffers c) c.args.a e (outlined c)

pub returns-in_err-make : goal.returns-in_err-make
returns-in_err-make c =
    let m = (goal.at.returns-in_err-make c).After-make in
    let p = err_from_is_err_and c.from_residual.result c.from_residual.ensures.1 in
    λ a e h f. rw (p.1, p.2) (subst (Given m a) c.in_err-make.was (given m a e h f))

pub returns : goal.returns
returns c =
    let m = (goal.at.returns c).After-make in
    λ a e h f. subst (Given m a) c.in_ok-make.was (given m a e h f)
