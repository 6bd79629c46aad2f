-- `records::change_each`: one entry a turn. Assumes nothing.
use Rattle.std.proofs.Common.{◌+◌, get_or, map, ◌++◌, sym, ap, subst, ◌∙◌}
use Rattle.std.proofs.lemmas.List.{append-nil}
use lib.Seq.{take_all}
use lib.ListN.{drop_of_length-le}
use Rattle.lists.proofs.ArrayLoops.{Renewed, renew-starts, renew-here, renew-turns}
use Rattle.records.specs.declared.Kept.{Kept}
use Rattle.records.specs.Record.{no_kept}
use Rattle.records.specs.Code.{sums_in, moved}
use Rattle.records.proofs.change_each.Goals as goal
use Rattle.records.proofs.change_each.Goals.{in-Some, in_default}

pub loop-k-init : goal.loop-k-init
loop-k-init g c by does = renew-starts

pub loop-k-preserved : goal.loop-k-preserved
loop-k-preserved g c by does =
    let v = c.loop-k.invariant by does in
    let f : Kept → Kept = λ k. moved by (sums_in k.number c.args.areas.now) k in
    let i = c.loop-k.k-index in
    let k = get_or c.loop-k.k-items i no_kept in
    let here = ap f (renew-here v no_kept c.loop-k-test.true) in
    elim c.match-sums_in.branch [
      | in-Some w ↦ subst (Renewed f c.args.entries.now (i + 1)) (sym w.k-items-is) (renew-turns v no_kept c.loop-k-test.true
          (does k w.in-Some.sums w.change.result w.change.ensures
          ∙ ap (λ s. moved by s k) (sym w.in-Some.is ∙ c.sums_in.ensures) ∙ here))
      | in_default w ↦ subst (Renewed f c.args.entries.now (i + 1)) (sym w.k-items-is) (renew-turns v no_kept c.loop-k-test.true
          (ap (λ s. moved by s k) (sym w.in_default.is ∙ c.sums_in.ensures) ∙ here))
    ]

pub returns : goal.returns
returns g c by does =
    let f : Kept → Kept = λ k. moved by (sums_in k.number c.args.areas.now) k in
    let v = c.loop-k.invariant by does in
    let all = c.loop-k-test.false in
    v.is
    ∙ (λ j. map f (take_all c.loop-k.k-index c.args.entries.now all j) ++ drop_of_length-le c.args.entries.now all j)
    ∙ append-nil (map f c.args.entries.now)
