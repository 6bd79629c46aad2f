-- `records::Record::check`: the count, then one area a turn. Assumes nothing.
use Rattle.std.proofs.Common.{◌≡◌, true, take, refl, rules}
use Rattle.std.proofs.lemmas.Result.{err_from_is_err_and}
use Rattle.map.specs.Format.{within}
use Rattle.records.proofs.FaultLaws.{numbered, sound-starts, sound-stops, sound-turns, sound-ends, fault-areas}
use Rattle.records.proofs.Record.check.Goals as goal

pub loop-k-init : goal.loop-k-init
loop-k-init c = sound-starts (take c.args.self.count c.args.self.areas)

pub returns-in_err-check : goal.returns-in_err-check
returns-in_err-check c =
    let a = c.args.self in
    let counted : within 1 32 a.count ≡ true = search rules in
    let p = err_from_is_err_and c.from_residual.result c.from_residual.ensures.1 in
    rw (p.1, p.2)
    (fault-areas a counted (sound-stops c.loop-k.invariant c.loop-k-test.true c.in_err-check.ensures (numbered _)))

pub loop-k-preserved : goal.loop-k-preserved
loop-k-preserved c = sound-turns c.loop-k.invariant c.loop-k-test.true c.in_ok-check.ensures refl

pub returns : goal.returns
returns c =
    let a = c.args.self in
    let counted : within 1 32 a.count ≡ true = search rules in
    fault-areas a counted (sound-ends c.loop-k.invariant c.loop-k-test.false)
