-- The loop that looks for the place of the area that gets a share. Assumes nothing.
use Prim.Native.Nat.{ℕ, ◌+◌, ◌≤◌, ◌<◌}
use mathlib.Core.Path.{◌≡◌, refl, sym, ap, ◌∙◌}
use mathlib.Core.List.{List, map}
use lib.ListN.{length, get_or, drop, drop_of_length-le}
use Rattle.lists.proofs.SumLaws.{drop-next}
use Rattle.units.specs.declared.Weighted.{Weighted}
use Rattle.proposal.specs.declared.Gets as got
use Rattle.proposal.specs.declared.Gets.TheVariants as gets
use Rattle.proposal.specs.declared.AreaAnswer.{AreaAnswer}
use Rattle.proposal.specs.Promises.{gets_means, area_means, blank}
use Rattle.footprint.specs.Footprint.{Shared, no_share, shares, shared_by}
use Rattle.footprint.specs.Code.{shared_from}

-- the share, if any, stands from place i on
pub record Looking (areas : List AreaAnswer) (i : ℕ) : Type 0 where
  pub later : shared_from 0 (map area_means areas) ≡ shared_from i (map area_means (drop i areas))

pub look-starts : (areas : List AreaAnswer) → Looking areas 0
look-starts areas = record { later = refl }

module _ {areas : List AreaAnswer} {i : ℕ} (c : Looking areas i) where
  -- what stands at place i, and later
  here : i < length areas → (g : got.Gets) → (get_or areas i blank).gets ≡ g
      → shared_from 0 (map area_means areas) ≡ shared_by i (gets_means g) (shared_from (i + 1) (map area_means (drop (i + 1) areas)))
  here h g e =
      c.later ∙ ap (λ (l : List AreaAnswer). shared_from i (map area_means l)) (drop-next areas i blank h)
      ∙ ap (λ (x : got.Gets). shared_by i (gets_means x) (shared_from (i + 1) (map area_means (drop (i + 1) areas)))) e

  -- an area without a share is passed over
  pub look-turns : i < length areas → ((w : Weighted) → (get_or areas i blank).gets ≡ gets.Share w → ⊥) → Looking areas (i + 1)
  look-turns h none = record { later = here h (get_or areas i blank).gets refl ∙ passes (get_or areas i blank).gets none }
    where
      passes : (g : got.Gets) → ((w : Weighted) → g ≡ gets.Share w → ⊥) → {later : Shared} → shared_by i (gets_means g) later ≡ later
      passes gets.Nothing n = refl
      passes gets.Whole n = refl
      passes gets.RoundedUp n = refl
      passes (gets.Share w) n = absurd (n w refl)

  pub look-finds : i < length areas → (share : Weighted) → (get_or areas i blank).gets ≡ gets.Share share
      → shares i share.0 ≡ shared_from 0 (map area_means areas)
  look-finds h share e = sym (here h (gets.Share share) e)

  pub look-ends : length areas ≤ i → no_share ≡ shared_from 0 (map area_means areas)
  look-ends h = sym (c.later ∙ ap (λ (l : List AreaAnswer). shared_from i (map area_means l)) (drop_of_length-le areas {i = i} h))
