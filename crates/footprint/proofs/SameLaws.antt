-- The same licences in another order have the same footprint. Assumes nothing.
use Prim.Native.Nat.{ℕ}
use mathlib.Core.Path.{◌≡◌, refl, ap, ◌∙◌, fun_ext}
use mathlib.Core.Bool.{cond}
use mathlib.Core.List.{List}
use lib.Dec.{eqb}
use Rattle.map.specs.Format.{Place, gap, cell, Area}
use Rattle.map.specs.Answers.{Located, none, some, locate}
use Rattle.register.specs.declared.Licence.{Licence}
use Rattle.register.specs.Sums.{SameLicences}
use Rattle.register.proofs.Sums.{same-any}
use Rattle.coverage.specs.Cover.{covers, holdings_of}
use Rattle.coverage.specs.declared.Holding.{Holding}
use Rattle.coverage.proofs.SameLaws.{same-holdings}
use Rattle.proposal.specs.Answer.{Proposal, proposal}
use Rattle.places.specs.Places.{place_of}
use Rattle.ring.specs.Ring.{Places}
use Rattle.footprint.specs.Footprint.{
  part_area,
  covered_at,
  covered_cells,
  Shared,
  no_share,
  shares,
  shared_in,
  Footprint,
  refused,
  footprint_of,
  in_located,
  in_shared,
  footprint_by,
}

module _ (xs ys : List Licence) (same : SameLicences xs ys) where
  same-covered-at : (number : ℕ) (p : Place) → covered_at xs number p ≡ covered_at ys number p
  same-covered-at number gap = refl
  same-covered-at number (cell c) = same-any xs ys same (λ l. covers l.ground number c)

  same-covered : (a : Area) → covered_cells xs a ≡ covered_cells ys a
  same-covered a = fun_ext (λ i. same-covered-at a.head.number (place_of a.grid a.head.columns i))

  module _ (areas : List Area) (mask table : ℕ) where
    same-located : (share : ℕ) (l : Located) → in_located xs share mask table l ≡ in_located ys share mask table l
    same-located share none = refl
    same-located share (some a) =
        ap (λ (f : Places). footprint_of a.head.number (part_area a) share f mask table) (same-covered a)

    same-shared : (s : Shared) → in_shared areas xs mask table s ≡ in_shared areas ys mask table s
    same-shared no_share = refl
    same-shared (shares number share) = same-located share (locate number areas)

    -- the footprint counts a licence as often as it is in force, and in no order
    pub same-footprint : (draw : ℕ) → footprint_by areas xs mask table (proposal (holdings_of xs areas) draw)
        ≡ footprint_by areas ys mask table (proposal (holdings_of ys areas) draw)
    unfolding footprint_by
    same-footprint draw =
        ap (λ (h : List Holding). footprint_by areas xs mask table (proposal h draw)) (same-holdings xs ys same areas)
        ∙ ap (by (proposal (holdings_of ys areas) draw)) (same-shared (shared_in (proposal (holdings_of ys areas) draw).areas))
      where
        by : Proposal → Footprint → Footprint
        by p o = cond (eqb p.refused 0) (cond (eqb p.kind 3) o (refused 13)) (refused p.refused)
