-- The area with a number, by what is found of it: under boxes, and with its c. Assumes nothing.
use Prim.Native.Nat.{ℕ}
use mathlib.Core.Path.{◌≡◌, refl, sym, ap, ◌∙◌}
use mathlib.Core.List.{List}
use Rattle.map.specs.Reading.{Read, bad, good}
use Rattle.map.specs.Format.{Area, read_map}
use Rattle.map.specs.Answers.{Located, none, some, locate, SoughtOf, lacking, has, located_as, seek}
use Rattle.map.specs.Answers as looked
use Rattle.map.proofs.Accepted.{LookedUpIn}
use Rattle.register.specs.declared.Licence.{Licence}
use Rattle.coverage.specs.declared.Holding.{Holding}
use Rattle.coverage.specs.Cover.{holding_of}
use Rattle.coverage.specs.Answers.{Answer, refused, answers, of_located, of_map}

-- what is looked up is refused and lacking alike, whatever is handed out of the area
module _ {A B : Type 0} (number : ℕ) (f : Area → A) (g : Area → B) where
  pub sought-refused : {x : ℕ} (r : Read (List Area)) → looked.refused x ≡ seek g number r → looked.refused x ≡ seek f number r
  unfolding seek
  sought-refused (bad y) q = cc
  sought-refused (good l e) q = by (locate number l) q
    where
      by : {x : ℕ} (h : Located) → looked.refused x ≡ located_as g h → looked.refused x ≡ located_as f h
      by none v = cc
      by (some a) v = cc

  pub sought-lacking : (r : Read (List Area)) → lacking ≡ seek g number r → lacking ≡ seek f number r
  unfolding seek
  sought-lacking (bad y) q = cc
  sought-lacking (good l e) q = by (locate number l) q
    where
      by : (h : Located) → lacking ≡ located_as g h → lacking ≡ located_as f h
      by none v = refl
      by (some a) v = cc

  pub sought_has : {s : List ℕ} {b : B} (l : LookedUpIn g s number b) → has (f l.stands.area) ≡ seek f number (read_map s)
  unfolding seek
  sought_has l = sym (ap (seek f number) l.reads ∙ ap (located_as f) l.stands.found)

-- the answer that is made of what is found
abbrev pub made : {A B : Type 0} → (zeros : A) → (B → A) → SoughtOf B → Answer A
made zeros h (looked.refused x) = refused x
made zeros h lacking = answers zeros
made zeros h (has b) = answers (h b)

-- what is found of an area of a map makes the answer that is defined
pub answered : {A : Type 0} (number : ℕ) (zeros : A) (h : Holding → A) (licences : List Licence) (s : List ℕ) {found : SoughtOf Holding}
    → found ≡ seek (holding_of licences) number (read_map s)
    → made zeros h found ≡ of_map number zeros (λ a. h (holding_of licences a)) (read_map s)
unfolding seek
answered {A} number zeros h licences s e = ap (made zeros h) e ∙ by-map (read_map s)
  where
    by-area : (g : Located) → made zeros h (located_as (holding_of licences) g) ≡ answers (of_located zeros (λ a. h (holding_of licences a)) g)
    by-area none = refl
    by-area (some a) = refl

    by-map : (r : Read (List Area)) → made zeros h (seek (holding_of licences) number r) ≡ of_map number zeros (λ a. h (holding_of licences a)) r
    by-map (bad x) = refl
    by-map (good l e) = by-area (locate number l)
