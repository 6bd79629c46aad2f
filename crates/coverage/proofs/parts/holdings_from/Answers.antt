-- `coverage::parts::holdings_from` meets its contract: one area a turn, with its c and its sum of cells. Assumes nothing.
use Rattle.std.proofs.Common.{refl, arith}
use Rattle.std.proofs.lemmas.Result.{err_from_is_err_and}
use Rattle.boxes.specs.Boxes.{edges_of}
use Rattle.register.specs.Licences.{in_force}
use Rattle.coverage.proofs.CoverLaws.{holding-handed}
use Rattle.coverage.proofs.HoldingLaws.{area-read, gather-starts, gather-turns, gather-stops, gather-extra, gather-ends}
use Rattle.coverage.proofs.parts.holdings_from.Goals as goal

pub loop-k-init : goal.loop-k-init
loop-k-init c =
    let a = c.args in
    gather-starts a.map.now (in_force a.register.places) a.count a.first

pub returns-in_err-a : goal.returns-in_err-a
returns-in_err-a c =
    let a = c.args in
    let b = c.boxes-boxes.result in
    let p = err_from_is_err_and c.from_residual.result c.from_residual.ensures.1 in
    rw (p.1, p.2)
    (gather-stops a.map.now (in_force a.register.places) c.loop-k.invariant (edges_of b) b.widths (omega arith) c.in_err-a.ensures)

pub loop-k-preserved : goal.loop-k-preserved
loop-k-preserved c =
    let a = c.args in
    let b = c.boxes-boxes.result in
    let read = area-read a.map.now (edges_of b) b.widths c.loop-k.before c.loop-k.at _ c.in_ok-a.ensures in
    gather-turns a.map.now (in_force a.register.places) c.loop-k.invariant (omega arith) c.requires
    read (holding-handed c.boxes-boxes.ensures read.holds read.handed c.holding_of.ensures)

pub returns-then-at-map : goal.returns-then-at-map
returns-then-at-map c =
    gather-ends c.args.map.now (in_force c.args.register.places) c.loop-k.invariant (omega arith) c.requires c.if-at-map.true refl refl refl

pub returns-else-at-map : goal.returns-else-at-map
returns-else-at-map c =
    gather-extra c.args.map.now (in_force c.args.register.places) c.loop-k.invariant (omega arith) c.if-at-map.false
