-- Document 01, "The list of demand 3": what holds of each call. The register and the ledger stay together, what comes of the call is
-- document 01's for the ledger's lines, and over an accepted map it is right. Assumes nothing.
use Prim.Native.Nat.{ℕ, zero, suc, ◌+◌, ◌≤◌}
use mathlib.Core.Path.{◌≡◌, refl, sym, ap, subst, ◌∙◌}
use mathlib.Core.List.{List, [], map-map}
use native.Mathlib.Omega.{arith}
use lib.Dec.{ltb, eqb}
use lib.ListN.{length, replicate}
use borrow.Author.Tests.{eqb-true, eqb-false, ltb-false}
use Rattle.lists.specs.Sums.{total}
use Rattle.lists.proofs.Tests.{by-test}
use Rattle.lists.proofs.SumLaws.{length-total}
use Rattle.map.specs.Reading.{Read, bad, good}
use Rattle.map.specs.Format.{Area, read_map}
use Rattle.register.specs.declared.Licence.{Licence}
use Rattle.register.specs.declared.Register.{Register}
use Rattle.register.specs.declared.Step as stepped
use Rattle.register.specs.Licences.{licence_of, free_place, in_force, strike}
use Rattle.register.specs.Rules.{limit, grant_rule, cancel_rule}
use Rattle.register.specs.Promises.{EmptyDone, GrantStep, CancelStep}
use Rattle.register.specs.Sums.{SameLicences, signs}
use Rattle.register.proofs.Laws.{sign-is, accepted-formed, accepted-new, accepted-room}
use Rattle.register.proofs.Sums.{same-grant, same-cancel, same-strike, release-strike, placed_total, once-added, strike-le}
use Rattle.coverage.specs.declared.Holding.{Holding}
use Rattle.coverage.specs.Cover.{holding_of, holdings_of}
use Rattle.coverage.proofs.SameLaws.{same-holdings}
use Rattle.proposal.specs.Choices.{partials}
use Rattle.proposal.specs.Answer.{Proposal, cells_shown, proposal, proposal_on}
use Rattle.proposal.specs.Demand as demand
use Rattle.proposal.proofs.Theorems.{cells_held, shows-cells, refused-by, right}
use Rattle.footprint.specs.Footprint.{Footprint, footprint_on}
use Rattle.footprint.specs.Promises.{Leaves}
use Rattle.footprint.proofs.SameLaws.{same-footprint}
use Rattle.demand3.specs.Calls.{licence, Call, grant, cancel, propose, footprint, Outcome, number}
use Rattle.demand3.specs.Ledger.{granted, lines_after}
use Rattle.demand3.specs.Right.{ProposalRight, Right, AsDefined, Sound}
use Rattle.demand3.proofs.Outlines.{footprint-right}
use Rattle.demand3.proofs.Lawful.{Does}

-- the register's licences in force are the lines
abbrev pub Same : Register → List Licence → Type 0
Same r lines = SameLicences (in_force r.places) lines

-- ---- a call keeps the register and the ledger together

grant-keeps : (r : Register) (lines : List Licence) (l : Licence) (g : stepped.Step) →
    GrantStep r l g → Same r lines → Same g.next (granted lines l)
grant-keeps r lines l g d same f =
    let e : g.refusal ≡ grant_rule lines l = d.number ∙ same-grant (in_force r.places) lines same l in
    by-test (eqb (grant_rule lines l) 0)
    (λ t.
    let z = eqb-true (grant_rule lines l) 0 t in
    simp t (placed_total (accepted-formed lines l z) (d.accepted (e ∙ z)) f ∙ ap (λ n. f l + n) (same f)))
    (λ t. simp (t, d.refused (λ z. eqb-false (grant_rule lines l) 0 t (sym e ∙ z))) (same f))

cancel-keeps : (r : Register) (lines : List Licence) (s : ℕ) (k : stepped.Step) →
    CancelStep r s k → Same r lines → Same k.next (lines_after lines (cancel s))
cancel-keeps r lines s k d same f =
    let e : k.refusal ≡ cancel_rule lines s = d.number ∙ same-cancel (in_force r.places) lines same s in
    by-test (eqb (cancel_rule lines s) 0)
    (λ t.
    let z = e ∙ eqb-true (cancel_rule lines s) 0 t in
    simp (t, d.accepted z, release-strike) (same-strike (in_force r.places) lines same s f))
    (λ t. simp (t, d.refused (λ z. eqb-false (cancel_rule lines s) 0 t (sym e ∙ z))) (same f))

pub same_step : (map : List ℕ) (r : Register) (lines : List Licence) → Same r lines →
    (c : Call) (o : Outcome c) (next : Register) → Does map r c o next → Same next (lines_after lines c)
same_step map r lines same (grant s g w) n next d = grant-keeps r lines (licence s g w) (record { next = next; refusal = n }) d same
same_step map r lines same (cancel s) n next d = cancel-keeps r lines s (record { next = next; refusal = n }) d same
same_step map r lines same (propose draw) p next d = subst (λ (x : Register). Same x lines) (sym d.1) same
same_step map r lines same (footprint draw mask table) o next d = subst (λ (x : Register). Same x lines) (sym d.1) same

pub refused-keeps : (map : List ℕ) (r : Register) (c : Call) (o : Outcome c) (next : Register) →
    Does map r c o next → (number c o ≡ 0 → ⊥) → next ≡ r
refused-keeps map r (grant s g w) n next d z = d.refused z
refused-keeps map r (cancel s) n next d z = d.refused z
refused-keeps map r (propose draw) p next d z = d.1
refused-keeps map r (footprint draw mask table) o next d z = d.1

-- an empty register has no licence in force
pub empty-same : (r : Register) → EmptyDone r → Same r []
empty-same r e f = simp e (go limit)
  where
    go : (n : ℕ) → total f (in_force (replicate n free_place)) ≡ 0
    go zero = refl
    go (suc n) = simp (sign-is 0 (licence_of free_place) refl) (go n)

-- ---- what comes of a call is document 01's for the ledger's lines

same-proposal : (m : Read (List Area)) (xs lines : List Licence) → SameLicences xs lines → (draw : ℕ) →
    proposal_on m xs draw ≡ proposal_on m lines draw
unfolding proposal_on
same-proposal (bad n) xs lines same draw = refl
same-proposal (good areas e) xs lines same draw = ap (λ hs. proposal hs draw) (same-holdings xs lines same areas)

same-outline : (m : Read (List Area)) (xs lines : List Licence) → SameLicences xs lines → (draw mask table : ℕ) →
    footprint_on m xs draw mask table ≡ footprint_on m lines draw mask table
unfolding footprint_on
same-outline (bad n) xs lines same draw mask table = refl
same-outline (good areas e) xs lines same draw mask table = same-footprint xs lines same areas mask table draw

pub defined-step : (map : List ℕ) (r : Register) (lines : List Licence) → Same r lines →
    (c : Call) (o : Outcome c) (next : Register) → Does map r c o next → AsDefined (read_map map) lines c o
defined-step map r lines same (grant s g w) n next d = d.number ∙ same-grant (in_force r.places) lines same (licence s g w)
defined-step map r lines same (cancel s) n next d = d.number ∙ same-cancel (in_force r.places) lines same s
defined-step map r lines same (propose draw) p next d = d.0 ∙ same-proposal (read_map map) (in_force r.places) lines same draw
defined-step map r lines same (footprint draw mask table) o next d =
    subst (λ (x : Footprint). Leaves x o.answer mask o.mask table o.table)
    (same-outline (read_map map) (in_force r.places) lines same draw (length mask) (length table)) d.0

-- ---- over an accepted map it is right

-- a proposal that is not refused has at most 20 partial areas
few-partial : (areas : List Holding) (draw : ℕ) → (proposal areas draw).refused ≡ 0 → length (partials areas) ≤ 20
few-partial areas draw z =
    by-test (ltb 20 (length (partials areas)))
    (λ t. absurd (let e : 12 ≡ 0 = sym (simp t at (refused-by areas draw)) ∙ z in omega arith))
    (λ t. ltb-false 20 (length (partials areas)) t)

proposal-right : (areas : List Area) (lines : List Licence) (draw : ℕ) (p : Proposal) →
    p ≡ proposal (holdings_of lines areas) draw → ProposalRight areas lines draw p
proposal-right areas lines draw p e =
    let n : p.refused ≡ (proposal (holdings_of lines areas) draw).refused = ap (λ (x : Proposal). x.refused) e in
    let few : p.refused ≡ 0 → length (partials (holdings_of lines areas)) ≤ 20 =
    λ z. few-partial (holdings_of lines areas) draw (sym n ∙ z) in
    record {
      answer = e;
      refused = n ∙ refused-by (holdings_of lines areas) draw;
      right = λ z. subst (demand.Right (holdings_of lines areas)) (sym e) (right (holdings_of lines areas) draw (few z));
      cells = λ z. ap cells_shown e ∙ shows-cells (holdings_of lines areas) draw (few z) ∙ map-map cells_held (holding_of lines) areas;
    }

pub right-step : (map : List ℕ) (areas : List Area) (end : ℕ) → read_map map ≡ good areas end →
    (lines : List Licence) (c : Call) (o : Outcome c) → AsDefined (read_map map) lines c o → Right areas lines c o
unfolding proposal_on footprint_on
right-step map areas end reads lines (grant s g w) n d = d
right-step map areas end reads lines (cancel s) n d = d
right-step map areas end reads lines (propose draw) p d =
    proposal-right areas lines draw p (d ∙ ap (λ (m : Read (List Area)). proposal_on m lines draw) reads)
right-step map areas end reads lines (footprint draw mask table) o d =
    footprint-right map areas end reads lines draw mask table o.answer o.mask o.table
    (subst (λ (m : Read (List Area)). Leaves (footprint_on m lines draw (length mask) (length table))
    o.answer mask o.mask table o.table) reads d)

-- ---- the ledger's own lines

pub sound-after : (lines : List Licence) (c : Call) → Sound lines → Sound (lines_after lines c)
sound-after lines (grant s g w) p =
    let l = licence s g w in
    by-test (eqb (grant_rule lines l) 0)
    (λ t.
    let e = eqb-true (grant_rule lines l) 0 t in
    simp t (record { once = once-added l lines p.once (accepted-new lines l e); few = accepted-room lines l e }))
    (λ t. simp t p)
sound-after lines (cancel s) p =
    let a = strike-le (λ _. 1) s lines in
    let n = length-total lines in
    let k = length-total (strike s lines) in
    let few = p.few in
    by-test (eqb (cancel_rule lines s) 0)
    (λ t. simp t (record {
      once = λ u. (let b = strike-le (signs u) s lines in let once = p.once u in omega arith);
      few = omega arith;
    }))
    (λ t. simp t p)
sound-after lines (propose draw) p = p
sound-after lines (footprint draw mask table) p = p
