-- Document 01, "The list of demand 3", through the C interface: the exported functions keep the laws of an interface, so demand 3 holds
-- of them. Assumes nothing.
use Prim.Native.Nat.{ℕ}
use mathlib.Core.Path.{◌≡◌, refl, sym, ap, subst, ◌∙◌}
use mathlib.Core.List.{List, [], ◌∷◌, ◌++◌, map}
use lib.ListN.{length, take}
use Rattle.map.specs.Format.{Area}
use Rattle.register.specs.declared.Ground.{Ground}
use Rattle.register.specs.declared.Licence.{Licence}
use Rattle.register.specs.declared.Step.{Step}
use Rattle.register.specs.declared.Register.{Register}
use Rattle.register.specs.Licences.{licence_at_width}
use Rattle.register.specs.Promises.{GrantStep}
use Rattle.proposal.specs.Answer as proposal
use Rattle.proposal.specs.Answer.{Proposal, cells_given}
use Rattle.abi.specs.declared.Given.{Given}
use Rattle.abi.specs.declared.FlatProposal.{FlatProposal}
use Rattle.abi.specs.Flat.{flat_given, flat_proposal}
use Rattle.demand3.specs.Calls.{Width, without, mhz, width_of, licence, Call, grant, cancel, propose, footprint}
use Rattle.demand3.specs.Interface.{Saying}
use Rattle.demand3.specs.Right.{cells_of, Right, Demand3}
use Rattle.demand3.proofs.Lawful.{Lawful, Laws, proposing-lawful, outlining-lawful}
use Rattle.demand3.proofs.Lists.{demand-3}
use Rattle.abi_ledger.specs.Exported.{Grants, function, exported, cells_out}

proposal-number : (a : FlatProposal) (p : Proposal) → a ≡ flat_proposal p → a.refusal ≡ p.refused
unfolding flat_proposal
proposal-number a p e = ap (λ (x : FlatProposal). x.refusal) e

-- a grant of what the caller laid out is one of the licence that it means
laid_out : {s : ℕ} {g : Ground} (w : Width) (r : Register) (step : Step)
    → Grants s g (λ given. GrantStep r (licence_at_width given (width_of w)) step) → GrantStep r (licence s g w) step
laid_out w r step d =
    subst (λ (x : Licence). GrantStep r x step)
    (λ i. record { call_sign = d.sign i; ground = d.ground i; width = width_of w }) d.post

lawful : (c : Call) → Lawful (function c)
lawful (grant s g without) = record {
  asks_nothing = λ map r given. tt;
  said = λ {map} {r} {a} {next} d.
      record { outcome = a; says = refl; holds = laid_out without r (record { next = next; refusal = a }) d };
  numbered = λ e. e;
}
lawful (grant s g (mhz width)) = record {
  asks_nothing = λ map r given. tt;
  said = λ {map} {r} {a} {next} d.
      record { outcome = a; says = refl; holds = laid_out (mhz width) r (record { next = next; refusal = a }) d };
  numbered = λ e. e;
}
lawful (cancel s) = record {
  asks_nothing = λ map r. tt;
  said = λ {map} {r} {a} {next} d. record { outcome = a; says = refl; holds = d };
  numbered = λ e. e;
}
lawful (propose draw) =
    proposing-lawful draw _ _ _ _ (λ lives given. tt) (λ lives lies map r a e. e) proposal-number
lawful (footprint draw mask table) =
    outlining-lawful draw mask table _ _ _ (λ lives given. tt) (λ lives lies masks tables map r a after entries d. d)

laws : Laws exported
laws = record { empty-asks-nothing = tt; empties = λ e. e; each = lawful }

pub exported-demand-3 : Demand3 exported
exported-demand-3 = demand-3 exported laws

-- ---- document 02, Paper 1: "The proposal shows the sum of cells for each map area"

-- the first entries show what the proposal does
first-cells : (l : List proposal.Given) (rest : List Given) → map cells_out (take (length l) (map flat_given l ++ rest)) ≡ map cells_given l
first-cells [] rest = refl
first-cells (g ∷ l) rest = ap (λ k. cells_given g ∷ k) (first-cells l rest)

-- a right answer's own entries, by the ledger's lines
pub exported-cells : (areas : List Area) (lines : List Licence) (draw : ℕ) (a : FlatProposal)
    → Saying (function (propose draw)) a (Right areas lines (propose draw)) → a.refusal ≡ 0
    → map cells_out (take a.count a.areas) ≡ map (cells_of lines) areas
unfolding flat_proposal
exported-cells areas lines draw a s z =
    ap (λ (x : FlatProposal). map cells_out (take x.count x.areas)) s.says
    ∙ first-cells s.outcome.areas _
    ∙ s.holds.cells (sym (proposal-number a s.outcome s.says) ∙ z)
