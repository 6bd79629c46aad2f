-- From the contracts of the crates below to those of the C interface. Assumes nothing.
use Prim.Native.Nat.{ℕ, zero, suc, ◌-◌, ◌<◌}
use mathlib.Core.Path.{◌≡◌, refl, sym, ap, ◌∙◌}
use mathlib.Core.List.{List, ◌∷◌, ◌++◌, map, map-append, map-map}
use native.Mathlib.Omega.{arith}
use lib.ListN.{length, get_or, take, drop, replicate, length-map, take-append-drop}
use Rattle.std.proofs.lemmas.List.{same_lists, get_or-map}
use Rattle.std.proofs.Common.{Ok, Err}
use Rattle.map.specs.Format.{read_map}
use Rattle.map.specs.Answers.{LookedUp, refused, lacking, has, look_up}
use Rattle.map.proofs.Accepted.{part_by, part-is}
use Rattle.proposal.specs.declared.AreaAnswer.{AreaAnswer}
use Rattle.proposal.specs.declared.ProposalRefusal.{ProposalRefusal}
use Rattle.proposal.specs.declared.answer.Proposal as proposed
use Rattle.proposal.specs.Answer as proposal
use Rattle.search.specs.Proposal.{kind_number}
use Rattle.proposal.specs.Promises.{area_means, refusal_number, means, blank, Laid, Answers}
use Rattle.abi.specs.declared.Given.{Given}
use Rattle.abi.specs.declared.FlatProposal.{FlatProposal}
use Rattle.abi.specs.Flat.{flat_found, flat_given, none_given, flat_proposal}
use Rattle.abi.specs.Promises.{FoundDone}

-- ---- an area that is looked up

-- the bytes that offset and length say are the area's part
part_by-flat : (bytes : List ℕ) (u : LookedUp) → take (flat_found u).length (drop (flat_found u).offset bytes) ≡ part_by bytes u
part_by-flat bytes (refused n) = refl
part_by-flat bytes lacking = refl
part_by-flat bytes (has a) = refl

pub found-done : (bytes : List ℕ) (number : ℕ) (u : LookedUp) → u ≡ look_up number (read_map bytes) → FoundDone bytes number (flat_found u)
found-done bytes number u e =
    record { answer = ap flat_found e; part = part_by-flat bytes u ∙ ap (part_by bytes) e ∙ part-is bytes number (read_map bytes) }

-- ---- what the areas are given

abbrev flat : AreaAnswer → Given
flat a = flat_given (area_means a)

-- an array that is made entry by entry
pub each-given : (areas : List AreaAnswer) {given : List Given} → length given ≡ length areas
    → ((i : ℕ) (e : Given) → i < length areas → get_or given i e ≡ flat (get_or areas i blank)) → given ≡ map flat areas
each-given areas {given} long each =
    same_lists given (map flat areas) (long ∙ sym (length-map areas flat))
    (λ i e l. each i e (omega (arith, l, long)) ∙ sym (get_or-map flat areas i blank e (omega (arith, l, long))))

-- ---- the proposal

map-replicate : (n : ℕ) → map flat (replicate n blank) ≡ replicate n none_given
map-replicate zero = refl
map-replicate (suc n) = ap (λ l. none_given ∷ l) (map-replicate n)

pub flat-refused : {p : proposal.Proposal} {r : ProposalRefusal} → Answers p (Err r) → {n : ℕ} → n ≡ refusal_number r
    → ◌≡◌ {A = FlatProposal} (record {
      refusal = n;
      kind = 0;
      tied = 0;
      count = 0;
      target = 0;
      white_space = 0;
      areas = replicate 32 none_given;
    }) (flat_proposal p)
unfolding flat_proposal
flat-refused d e = rw e (ap flat_proposal d.meaning)

pub flat-answers : {p : proposal.Proposal} {r : proposed.Proposal} → Answers p (Ok r) → {k : ℕ} {given : List Given}
    → k ≡ kind_number r.kind → given ≡ map flat r.areas
    → ◌≡◌ {A = FlatProposal} (record {
      refusal = 0;
      kind = k;
      tied = r.tied;
      count = r.count;
      target = r.target.0;
      white_space = r.white_space.0;
      areas = given;
    }) (flat_proposal p)
unfolding means flat_proposal
flat-answers {p} {r} d {given = given} ke ge =
    let m = d.meaning in
    let laid : Laid p r = d.laid in
    let all : given ≡ map flat_given p.areas ++ replicate (32 - length p.areas) none_given =
    ge ∙ ap (map flat) (sym (take-append-drop r.count r.areas))
    ∙ map-append flat (take r.count r.areas) (drop r.count r.areas)
    ∙ (λ i. sym (map-map flat_given area_means (take r.count r.areas)) i ++ map flat (laid.past i))
    ∙ (λ i. map flat_given (m i).areas ++ map-replicate (32 - r.count) i)
    ∙ ap (λ (c : ℕ). map flat_given p.areas ++ replicate (32 - c) none_given) laid.count in
    λ i. record {
      refusal = (m i).refused;
      kind = (ke ∙ ap (λ q. q.kind) m) i;
      tied = (m i).tied;
      count = laid.count i;
      target = (m i).target;
      white_space = (m i).white;
      areas = all i;
    }
