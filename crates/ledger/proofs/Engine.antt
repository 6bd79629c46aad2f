-- Document 01, "The list of demand 3", through the engine's own functions: they keep the laws of an interface, so demand 3 holds of
-- them. Assumes nothing.
use Prim.Native.Nat.{ℕ}
use mathlib.Core.Path.{◌≡◌, refl, sym, ap, subst, ◌∙◌}
use mathlib.Core.List.{List, map}
use Rattle.map.specs.Format.{Area}
use Rattle.register.specs.declared.Licence.{Licence}
use Rattle.std.specs.Prelude.{Result}
use Rattle.register.specs.Rules.{grant_number, cancel_number}
use Rattle.register.specs.Promises.{refusal_of, GrantStep, CancelStep}
use Rattle.proposal.specs.declared.answer.Proposal as proposed
use Rattle.proposal.specs.declared.ProposalRefusal.{ProposalRefusal}
use Rattle.proposal.specs.Answer.{Proposal, cells_shown}
use Rattle.proposal.specs.Promises.{answer_means, Answers}
use Rattle.demand3.specs.Calls.{licence, Call, grant, cancel, propose, footprint}
use Rattle.demand3.specs.Interface.{Saying}
use Rattle.demand3.specs.Right.{cells_of, Right, Demand3}
use Rattle.demand3.proofs.Lawful.{Lawful, Laws, proposing-lawful, outlining-lawful}
use Rattle.demand3.proofs.Lists.{demand-3}
use Rattle.ledger.specs.Engine.{function, engine}

-- what a proposal's function answers
abbrev pub Proposed : Type 0
Proposed = Result proposed.Proposal ProposalRefusal

pub proposal-number : (a : Proposed) (p : Proposal) → Answers p a → (answer_means a).refused ≡ p.refused
proposal-number a p h = ap (λ (x : Proposal). x.refused) h.meaning

lawful : (c : Call) → Lawful (function c)
lawful (grant s g w) = record {
  asks_nothing = λ map r. tt;
  said = λ {map} {r} {a} {next} d. record {
    outcome = refusal_of grant_number a;
    says = refl;
    holds = subst (λ n. GrantStep r (licence s g w) (record { next = n; refusal = refusal_of grant_number a })) (sym d.1) d.0;
  };
  numbered = λ e. e;
}
lawful (cancel s) = record {
  asks_nothing = λ map r. tt;
  said = λ {map} {r} {a} {next} d. record {
    outcome = refusal_of cancel_number a;
    says = refl;
    holds = subst (λ n. CancelStep r s (record { next = n; refusal = refusal_of cancel_number a })) (sym d.1) d.0;
  };
  numbered = λ e. e;
}
lawful (propose draw) =
    proposing-lawful draw _ _ _ _ (λ lives given. tt) (λ lives lies map r a d. d) proposal-number
lawful (footprint draw mask table) =
    outlining-lawful draw mask table _ _ _ (λ lives given. tt) (λ lives lies masks tables map r a after entries d. d)

laws : Laws engine
laws = record { empty-asks-nothing = tt; empties = λ e. e; each = lawful }

pub engine-demand-3 : Demand3 engine
engine-demand-3 = demand-3 engine laws

-- document 02, Paper 1: "The proposal shows the sum of cells for each map area": a right answer's own entries, by the ledger's lines
pub engine-cells : (areas : List Area) (lines : List Licence) (draw : ℕ) (a : Proposed)
    → Saying (function (propose draw)) a (Right areas lines (propose draw)) → (answer_means a).refused ≡ 0
    → cells_shown (answer_means a) ≡ map (cells_of lines) areas
engine-cells areas lines draw a s z =
    ap cells_shown s.says.meaning ∙ s.holds.cells (sym (proposal-number a s.outcome s.says) ∙ z)
