-- `records::Record::propose`: by whether the record has a fault. Assumes nothing.
use Rattle.std.proofs.Common.{◌≡◌, List, map, take, sym, ap, subst, ◌∙◌, arith, rules}
use Rattle.std.proofs.lemmas.Result.{err_from_is_err_and}
use Rattle.coverage.specs.declared.Holding.{Holding}
use Rattle.proposal.specs.Answer.{refused_by}
use Rattle.proposal.specs.Code.{Bounded}
use Rattle.proposal.specs.Promises.{Answers}
use Rattle.records.specs.Record.{no_kept}
use Rattle.records.specs.Code.{held_by}
use Rattle.records.proofs.HeldLaws.{each-made}
use Rattle.records.proofs.FaultLaws.{numbered, record-bounded, from-fault, from-areas}
use Rattle.records.proofs.Record.propose.Goals as goal

pub returns-in_err-check : goal.returns-in_err-check
unfolding refused_by
returns-in_err-check c =
    let p = err_from_is_err_and c.from_residual.result c.from_residual.ensures.1 in
    rw (p.1, p.2) (record {
      meaning = from-fault c.args.self c.args.draw c.in_err-check.ensures (numbered _);
      laid = tt;
    })

pub propose_from-requires : goal.propose_from-requires
propose_from-requires c =
    let a = c.args.self in
    let areas : c.map-areas.result ≡ map held_by a.areas =
    each-made held_by no_kept a.areas (omega arith)
    (λ k d l. let t = (c.map-areas.ensures.items.at k no_kept d (omega arith)).2 in search rules) in
    subst (λ (hs : List Holding). Bounded (take a.count hs)) (sym areas) (record-bounded a (sym c.in_ok-check.ensures)).0

pub returns : goal.returns
returns c =
    let a = c.args.self in
    let none = sym c.in_ok-check.ensures in
    let areas : c.map-areas.result ≡ map held_by a.areas =
    each-made held_by no_kept a.areas (omega arith)
    (λ k d l. let t = (c.map-areas.ensures.items.at k no_kept d (omega arith)).2 in search rules) in
    subst (λ p. Answers p c.propose_from.result)
    (from-areas a c.args.draw none (ap (take a.count) areas ∙ (record-bounded a none).1)) c.propose_from.ensures
