-- Document 02, Paper 4: where every licence in force is 50 MHz wide, the proposal is document 01's. Assumes nothing.
use Prim.Native.Nat.{ℕ}
use mathlib.Core.Path.{◌≡◌, refl, sym, ◌∙◌}
use mathlib.Core.List.{List, [], ◌∷◌}
use Rattle.lists.specs.Sums.{All}
use Rattle.map.specs.Reading.{good}
use Rattle.map.specs.Format.{Area, read_map}
use Rattle.map.specs.Accepted.{AreaHolds}
use Rattle.map.proofs.Accepted.{accepted}
use Rattle.register.specs.declared.Licence.{Licence}
use Rattle.coverage.specs.declared.Holding.{Holding}
use Rattle.coverage.specs.Cover.{holdings_of}
use Rattle.coverage.specs.FullWidth.{FullWidths}
use Rattle.coverage.proofs.FullWidth.{full-width}
use Rattle.proposal.specs.Terms.{Pairwise, SameTerms}
use Rattle.proposal.specs.FullWidth.{Document01, FullWidth}
use Rattle.proposal.proofs.Terms.{terms-only}

module _ (ls : List Licence) where
  -- the areas of the map have document 01's blocks, v and M
  all-before : (s : List ℕ) (areas : List Area) → All (AreaHolds s) areas → FullWidths ls
      → Pairwise (Document01 ls) (holdings_of ls areas) areas
  all-before s [] h full = tt
  all-before s (a ∷ areas) h full =
      let w = full-width ls a h.0 full in (
        record { number = refl; weight = refl; whole = w.whole; part = w.part; value = w.value; size = w.size },
        all-before s areas h.1 full,
      )

  -- what has document 01's blocks, v and M of the same area agrees in what a proposal reads
  one-agrees : {h k : Holding} {a : Area} → Document01 ls h a → Document01 ls k a → SameTerms h k
  one-agrees x y = record {
    number = x.number ∙ sym y.number;
    weight = x.weight ∙ sym y.weight;
    whole = x.whole ∙ sym y.whole;
    part = x.part ∙ sym y.part;
    value = x.value ∙ sym y.value;
    size = x.size ∙ sym y.size;
  }

  all-agree : (hs ks : List Holding) (areas : List Area) → Pairwise (Document01 ls) hs areas → Pairwise (Document01 ls) ks areas
      → Pairwise SameTerms hs ks
  all-agree [] [] [] x y = tt
  all-agree [] [] (a ∷ areas) x y = tt
  all-agree [] (k ∷ ks) [] x y = absurd y
  all-agree [] (k ∷ ks) (a ∷ areas) x y = absurd x
  all-agree (h ∷ hs) ks [] x y = absurd x
  all-agree (h ∷ hs) [] (a ∷ areas) x y = absurd y
  all-agree (h ∷ hs) (k ∷ ks) (a ∷ areas) x y = (one-agrees x.0 y.0, all-agree hs ks areas x.1 y.1)

  -- over an accepted map, with every licence in force 50 MHz wide
  pub full-width-proposal : (s : List ℕ) (areas : List Area) (e : ℕ) → read_map s ≡ good areas e → FullWidths ls → FullWidth ls areas
  full-width-proposal s areas e q full =
      let terms = all-before s areas (accepted s areas e q).each full in
      record { terms = terms; proposals = λ hs x. terms-only (holdings_of ls areas) hs (all-agree (holdings_of ls areas) hs areas terms x) }
