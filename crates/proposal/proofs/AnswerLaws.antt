-- What the functions find comes to the proposal of the definitions. Assumes nothing.
use Prim.Native.Nat.{ℕ, suc, ◌-◌, ◌<◌, ◌≤◌}
use mathlib.Core.Path.{◌≡◌, refl, sym, ap, ◌∙◌}
use native.Mathlib.Omega.{arith}
use mathlib.Core.Bool.{cond}
use mathlib.Core.List.{List, [], ◌∷◌, map}
use lib.ListN.{length, take, drop, replicate, length-map}
use borrow.Author.Tests.{lt-ltb}
use Rattle.lists.specs.Sums.{All}
use Rattle.lists.proofs.Tests.{takes}
use Rattle.coverage.specs.declared.Holding.{Holding}
use Rattle.coverage.specs.Limits.{Limits}
use Rattle.search.specs.declared.Answer.{Answer}
use Rattle.search.specs.declared.Partial.{Partial}
use Rattle.search.specs.Choice.{Mark, cap}
use Rattle.search.specs.Proposal as searched
use Rattle.search.specs.Proposal.{kind_number, propose, in_limits}
use Rattle.search.proofs.LimitLaws.{limits-pass}
use Rattle.std.proofs.Common.{Ok, Err, Some, None}
use Rattle.std.specs.Prelude.{Option}
use Rattle.units.specs.declared.Weighted.{Weighted}
use Rattle.proposal.specs.declared.ProposalRefusal.TheVariants.{TooMany}
use Rattle.proposal.specs.declared.parts.Partials.{Partials}
use Rattle.proposal.specs.declared.answer.Proposal as proposed
use Rattle.proposal.specs.Choices.{partials, share, part_areas}
use Rattle.proposal.specs.Best.{chosen}
use Rattle.proposal.specs.Answer.{kind_of, given, Proposal, refused_by, answer_of, proposal}
use Rattle.proposal.specs.Promises.{area_means, means, blank, Answers}
use Rattle.proposal.specs.Code.{Gathered, decode, Settled}
use Rattle.proposal.proofs.BestLaws.{
  found,
  chosen-decoded,
  tied-count,
  white-same,
  entry-inside,
  white-inside,
  share-found,
  kind-same,
}
use Rattle.proposal.proofs.GatherLaws.{fits, its-sizes, its-weights, search-limits}
use Rattle.proposal.proofs.Theorems.{proposed-is}

-- "12: more than 20 partial areas"
pub too_many : (areas : List Holding) (draw : ℕ) → 20 < length (partials areas) → Answers (proposal areas draw) (Err TooMany)
unfolding proposal refused_by
too_many areas draw h = record { meaning = takes (answer_of areas (chosen (partials areas) draw)) (lt-ltb 20 (length (partials areas)) h); laid = tt }

given-length : (kind sh : ℕ) (areas : List Holding) (c : List Mark) → length (given kind sh areas c) ≡ length areas
unfolding given
given-length kind sh [] c = refl
given-length kind sh (a ∷ areas) c = ap (λ n. suc n) (given-length kind sh areas _)

module _ (areas : List Holding) (draw : ℕ) (p : Partials) (g : Gathered areas p) where
  abbrev s : List Holding
  s = partials areas

  abbrev answer : Answer
  answer = found s draw (fits areas)

  abbrev asked_sizes : List ℕ
  asked_sizes = searched.sizes (take p.count p.areas)

  abbrev asked_weights : List ℕ
  asked_weights = searched.weights (take p.count p.areas)

  -- the search is asked about S, which is within its limits
  pub asked : All Limits areas → length s ≤ 20 → {a : Option Answer}
      → a ≡ cond (in_limits asked_sizes asked_weights) (Some (propose p.target.0 asked_sizes asked_weights draw)) None → a ≡ Some answer
  asked l few e =
      e ∙ sym (takes None (limits-pass asked_sizes asked_weights (search-limits g l few)))
      ∙ (λ i. Some (propose (g.target i) (its-sizes g i) (its-weights g i) draw))

  pub it-is : {o : Option Answer} {a : Answer} → o ≡ Some answer → o ≡ Some a → a ≡ answer
  it-is q e = cc

  -- the entry that it finds has a size, and the white space is inside it
  pub share-asks : (a : Answer) → a ≡ answer → (a.entry ≤ length (take p.count p.areas)) × (a.white.0 ≤ cap asked_sizes a.entry)
  share-asks a e =
      let n = length-map (take p.count p.areas) (λ (x : Partial). x.size.0) in
      let inside : a.entry ≤ length asked_sizes = rw (e, its-sizes g) (entry-inside s draw (fits areas)) in
      (omega arith, rw (e, its-sizes g) (white-inside s draw (fits areas)))

  -- what is put together is the proposal
  pub proposes : length s ≤ 20 → (a : Answer) → a ≡ answer → {sh : ℕ} → sh ≡ cap asked_sizes a.entry - a.white.0 → {r : proposed.Proposal}
      → r.kind ≡ a.kind → r.target ≡ p.target → r.white_space ≡ a.white → r.tied ≡ a.tied → r.count ≡ length areas
      → Settled areas (kind_number a.kind) sh a.entry a.number r.areas → Answers (proposal areas draw) (Ok r)
  unfolding means answer_of
  proposes few a ea {sh} es {r} ek et ew eq en st = record {
    meaning =
        (λ i. record {
          refused = 0;
          kind = (ap kind_number ek ∙ k) i;
          target = (ap (λ (w : Weighted). w.0) et ∙ g.target) i;
          white = (ap (λ (w : Weighted). w.0) ew ∙ ap (λ (x : Answer). x.white.0) ea ∙ sym (white-same s draw (fits areas))) i;
          tied = (eq ∙ ap (λ (x : Answer). x.tied) ea ∙ sym (tied-count s draw (fits areas))) i;
          areas = each i;
        })
        ∙ proposed-is areas draw few;
    laid = record {
      count =
          en ∙ sym (given-length (kind_of (share s c) (part_areas s c)) (share s c) areas c)
          ∙ ap (λ (x : Proposal). length x.areas) (proposed-is areas draw few);
      past = ap (λ j. drop j r.areas) en ∙ st.past ∙ ap (λ j. replicate (32 - j) blank) (sym en);
    };
  }
    where
      c : List Mark
      c = chosen s draw

      k : kind_number a.kind ≡ kind_of (share s c) (part_areas s c)
      k = ap (λ (x : Answer). kind_number x.kind) ea ∙ sym (kind-same s draw (fits areas))

      z : sh ≡ share s c
      z = es ∙ (λ i. cap (its-sizes g i) (ea i).entry - (ea i).white.0) ∙ sym (share-found s draw (fits areas))

      m : decode (length s) a.entry a.number ≡ c
      m = (λ i. decode (length s) (ea i).entry (ea i).number) ∙ sym (chosen-decoded s draw (fits areas))

      each : map area_means (take r.count r.areas) ≡ given (kind_of (share s c) (part_areas s c)) (share s c) areas c
      each = ap (λ j. map area_means (take j r.areas)) en ∙ st.each ∙ (λ i. given (k i) (z i) areas (m i))
