-- The ways that a footprint over an accepted map can come out. Assumes nothing.
use Prim.Native.Nat.{ℕ, ◌≤◌, ◌<◌}
use mathlib.Core.Path.{◌≡◌, sym, ap, subst, ◌∙◌}
use mathlib.Core.List.{List}
use native.Mathlib.Omega.{arith}
use lib.Dec.{ltb, eqb}
use lib.ListN.{length}
use borrow.Author.Tests.{ltb-true, ltb-false, eqb-true, eqb-false, eq-eqb, ne_eqb}
use Rattle.lists.proofs.Tests.{by-test}
use Rattle.map.specs.Format.{Area}
use Rattle.map.specs.Accepted.{MapHolds}
use Rattle.map.proofs.Accepted.{located-self}
use Rattle.register.specs.declared.Licence.{Licence}
use Rattle.coverage.specs.Cover.{holdings_of}
use Rattle.proposal.specs.Choices.{partials}
use Rattle.proposal.specs.Answer.{Proposal, proposal}
use Rattle.proposal.proofs.Theorems.{refused-by}
use Rattle.rounds.specs.Footprint.{places, footprint, needed}
use Rattle.footprint.specs.Footprint.{
  part_area,
  covered_cells,
  shared_in,
  Footprint,
  refused,
  short,
  made,
  footprint_of,
  in_located,
  in_shared,
  footprint_by,
}
use Rattle.footprint.proofs.ShareLaws.{OneShare, one-share}

-- ---- by the proposal

module _ (areas : List Area) (licences : List Licence) (mask table : ℕ) (p : Proposal) where
  pub by-refusal : (p.refused ≡ 0 → ⊥) → footprint_by areas licences mask table p ≡ refused p.refused
  unfolding footprint_by
  by-refusal z = simp (ne_eqb p.refused 0 z)

  pub by_kind : p.refused ≡ 0 → (p.kind ≡ 3 → ⊥) → footprint_by areas licences mask table p ≡ refused 13
  unfolding footprint_by
  by_kind e z = simp (eq-eqb p.refused 0 e, ne_eqb p.kind 3 z)

  by_part : p.refused ≡ 0 → p.kind ≡ 3
      → footprint_by areas licences mask table p ≡ in_shared areas licences mask table (shared_in p.areas)
  unfolding footprint_by
  by_part e q = simp (eq-eqb p.refused 0 e, eq-eqb p.kind 3 q)

-- ---- over an accepted map

-- 12, 13 or 7; 8; or a footprint of the area that gets the share
pub data Case (areas : List Area) (licences : List Licence) (draw mask table : ℕ) (o : Footprint) : Type 0 where
  refuses : (n : ℕ) → (n ≡ 0 → ⊥) → (n ≡ 8 → ⊥) → o ≡ refused n → Case areas licences draw mask table o
  lacks : (p : OneShare areas licences (proposal (holdings_of licences areas) draw))
      → places (part_area p.area) ≤ mask
      → table < needed (part_area p.area) p.share (covered_cells licences p.area)
      → o ≡ short (places (part_area p.area)) (needed (part_area p.area) p.share (covered_cells licences p.area))
      → Case areas licences draw mask table o
  makes : (p : OneShare areas licences (proposal (holdings_of licences areas) draw))
      → places (part_area p.area) ≤ mask
      → o ≡ made p.area.head.number (places (part_area p.area))
      (needed (part_area p.area) p.share (covered_cells licences p.area))
      (footprint (part_area p.area) p.share (covered_cells licences p.area))
      → Case areas licences draw mask table o

module _ {s : List ℕ} {areas : List Area} (h : MapHolds s areas) (licences : List Licence) (draw mask table : ℕ) where
  abbrev p : Proposal
  p = proposal (holdings_of licences areas) draw

  abbrev Comes : Footprint → Type 0
  Comes o = Case areas licences draw mask table o

  -- of the area that gets the share: 7, 8, or it is made
  of-share : (q : OneShare areas licences p)
      → Comes (footprint_of q.area.head.number (part_area q.area) q.share (covered_cells licences q.area) mask table)
  unfolding footprint_of
  of-share q =
      let a = part_area q.area in
      let f = covered_cells licences q.area in
      by-test (ltb mask (places a))
      (λ t. refuses 7 (λ e. omega arith) (λ e. omega arith) (simp t))
      (λ t.
      let room = ltb-false mask (places a) t in
      by-test (ltb table (needed a q.share f))
      (λ u. lacks q room (ltb-true table (needed a q.share f) u) (simp (t, u)))
      (λ u. makes q room (simp (t, u))))

  -- the share leads to its area: the one at its place is the one that its number locates
  pub share-is : p.refused ≡ 0 → p.kind ≡ 3 → (q : OneShare areas licences p) → footprint_by areas licences mask table p
      ≡ footprint_of q.area.head.number (part_area q.area) q.share (covered_cells licences q.area) mask table
  share-is r k q =
      by_part areas licences mask table p r k
      ∙ ap (in_shared areas licences mask table) q.shared
      ∙ ap (in_located licences q.share mask table) (located-self 0 areas h.ascending q.area q.member)

  pub cases : Comes (footprint_by areas licences mask table p)
  cases = by-test (eqb p.refused 0)
      (λ t.
      let r = eqb-true p.refused 0 t in
      by-test (eqb p.kind 3)
      (λ u.
      let k = eqb-true p.kind 3 u in
      let q = one-share areas licences draw r k in
      subst Comes (sym (share-is r k q)) (of-share q))
      (λ u. refuses 13 (λ e. omega arith) (λ e. omega arith) (by_kind areas licences mask table p r (eqb-false p.kind 3 u))))
      (λ t.
      let z = eqb-false p.refused 0 t in
      refuses p.refused z not_eight (by-refusal areas licences mask table p z))
    where
      not_eight : p.refused ≡ 8 → ⊥
      not_eight e = by-test (ltb 20 (length (partials (holdings_of licences areas))))
          (λ u. let z : 12 ≡ 8 = sym (simp u at (refused-by (holdings_of licences areas) draw)) ∙ e in omega arith)
          (λ u. let z : 0 ≡ 8 = sym (simp u at (refused-by (holdings_of licences areas) draw)) ∙ e in omega arith)
