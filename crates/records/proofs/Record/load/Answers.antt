-- `records::Record::load`: what is kept of each area of the map. Assumes nothing.
use Rattle.std.proofs.Common.{◌≡◌, List, map, ap, ◌∙◌, arith, rules}
use Rattle.map.specs.Format.{read_map}
use Rattle.coverage.specs.Answers.{answers, no_holding}
use Rattle.records.specs.declared.Kept.{Kept}
use Rattle.records.specs.Record.{kept}
use Rattle.records.proofs.HeldLaws.{each-made, load-done}
use Rattle.records.proofs.Record.load.Goals as goal

pub returns : goal.returns
returns c =
    let held = c.in_ok-held.held in
    let entries : c.map.result ≡ map kept held.areas =
    each-made kept no_holding held.areas (omega arith)
    (λ k d l. let t = (c.map.ensures.items.at k no_holding d (omega arith)).2 in search rules) in
    ap (λ (l : List Kept). answers (record { count = held.count; areas = l })) entries
    ∙ load-done (read_map c.args.map.now) c.empty.result held c.empty.ensures c.in_ok-held.ensures
