-- The proposal over a map's bytes, by what is read of them. Assumes nothing.
use Prim.Native.Nat.{ℕ}
use mathlib.Core.Path.{◌≡◌, refl, sym, subst, ◌∙◌}
use mathlib.Core.List.{List}
use native.Mathlib.Omega.{arith}
use lib.ListN.{take}
use lib.Seq.{length-take-le}
use Rattle.std.proofs.Common.{Result, Err}
use Rattle.lists.specs.Sums.{All}
use Rattle.map.specs.declared.Fault.{Fault}
use Rattle.map.specs.Reading.{Read, bad}
use Rattle.map.specs.Format.{Area, read_map}
use Rattle.map.specs.Answers.{fault_number}
use Rattle.register.specs.declared.Licence.{Licence}
use Rattle.coverage.specs.declared.Holding.{Holding}
use Rattle.coverage.specs.declared.Holdings.{Holdings}
use Rattle.coverage.specs.Limits.{Limits}
use Rattle.coverage.specs.Holdings.{HoldingsAre}
use Rattle.coverage.proofs.BlockLaws.{limits-in}
use Rattle.proposal.specs.declared.ProposalRefusal.{ProposalRefusal}
use Rattle.proposal.specs.declared.ProposalRefusal.TheVariants.{Map}
use Rattle.proposal.specs.declared.answer.Proposal as proposed
use Rattle.proposal.specs.Answer.{refused_by, proposal, proposal_on}
use Rattle.proposal.specs.Promises.{Answers}
use Rattle.proposal.specs.Code.{Bounded}

-- a map that is refused
pub on-refused : (licences : List Licence) (draw : ℕ) (r : Read (List Area)) (f : Fault) → r ≡ bad (fault_number f)
    → Answers (proposal_on r licences draw) (Err (Map f))
unfolding proposal_on refused_by
on-refused licences draw r f e =
    subst (λ x. Answers (proposal_on x licences draw) (Err (Map f))) (sym e) (record { meaning = refl; laid = tt })

-- a map that is accepted: its areas are within the limits, and the proposal is made from them
module _ (s : List ℕ) (licences : List Licence) {h : Holdings} (d : HoldingsAre licences (read_map s) h) where
  pub bounded : Bounded (take h.count h.areas)
  bounded = record {
    few = (let n = length-take-le h.count h.areas (omega (arith, d.few, d.entries)) in omega (arith, d.few));
    limits = subst (All Limits) (sym d.each) (limits-in licences s d.areas d.next d.reads);
  }

  pub on-accepted : {l : List Holding} → l ≡ take h.count h.areas → (draw : ℕ) (r : Result proposed.Proposal ProposalRefusal)
      → Answers (proposal l draw) r → Answers (proposal_on (read_map s) licences draw) r
  unfolding proposal_on
  on-accepted e draw r a =
      subst (λ x. Answers (proposal_on x licences draw) r) (sym d.reads) (subst (λ (l : List Holding). Answers (proposal l draw) r) (e ∙ d.each) a)
