-- `records::Record::changed`: the entries up to the count. Assumes nothing.
use Rattle.std.proofs.Common.{◌≡◌, rules}
use Rattle.records.proofs.Record.changed.Goals as goal

pub returns : goal.returns
returns g c by does =
    let e : c.change_each.new.entries ≡ _ = c.change_each.ensures by does in
    let n = c.entries-entries.ensures.0 in
    search rules
