-- `search::Searched::answer_at`: the kind comes from its function, the rest is read from the table. Assumes nothing.
use mathlib.Core.Path.{sym}
use lib.ListN.{get_or-map}
use Rattle.search.specs.declared.Held.{Held}
use Rattle.search.specs.Proposal.{answer_at}
use Rattle.search.proofs.Inner.{empty}
use Rattle.search.proofs.Searched.answer_at.Goals as goal

pub returns : goal.returns
unfolding answer_at
returns c =
    let a = c.args in
    λ i. record {
      kind = c.kind_at.ensures i;
      white = record { 0 = sym (get_or-map (λ (h : Held). h.white) a.self.now.table.now a.t empty) i };
      tied = a.tied;
      entry = a.t;
      number = sym (get_or-map (λ (h : Held). h.set) a.self.now.table.now a.t empty) i;
    }
