-- A proposal of kind 3 shares one area of the map, and the share is above 0 and below the area's M. Assumes nothing.
use Prim.Native.Nat.{ℕ, suc, ◌+◌, ◌-◌, ◌<◌}
use mathlib.Core.Path.{◌≡◌, refl, sym, ap, subst, ◌∙◌}
use mathlib.Core.Bool.{Bool, true, false, cond, false≢true}
use mathlib.Core.List.{List, [], ◌∷◌, map, Memᴰ}
use native.Mathlib.Omega.{arith}
use lib.Dec.{ltb}
use lib.ListN.{length, get_or}
use borrow.Author.Tests.{ltb-true}
use Rattle.lists.specs.Filters.{filter}
use Rattle.lists.proofs.Tests.{by-test, first_of, second-of}
use Rattle.map.specs.Format.{Area}
use Rattle.map.specs.Answers.{summary}
use Rattle.register.specs.declared.Licence.{Licence}
use Rattle.coverage.specs.declared.Holding.{Holding}
use Rattle.coverage.specs.Cover.{holding_of, holdings_of}
use Rattle.coverage.specs.Blocks.{partial, size}
use Rattle.coverage.specs.Answers.{no_area}
use Rattle.search.specs.Choice.{Mark, out, whole, part}
use Rattle.proposal.specs.Choices.{partials, total_value, part_areas, whole_size, share, allowed_by, allowed}
use Rattle.proposal.specs.Best.{chosen}
use Rattle.proposal.specs.Answer.{kind_of, gets_by, first_mark, later_marks, given, refused_by, answer_of, proposal, Proposal}
use Rattle.proposal.proofs.Theorems.{is-allowed}
use Rattle.footprint.specs.Footprint.{shares, shared_in}
use Rattle.footprint.specs.Code.{shared_from}

-- ---- the area that gets the share

module _ (a : Holding) (l : List Holding) where
  not-partial : partial a ≡ false → partials (a ∷ l) ≡ partials l
  unfolding partials filter
  not-partial t = rw t

  is-partial : partial a ≡ true → partials (a ∷ l) ≡ a ∷ partials l
  unfolding partials filter
  is-partial t = rw t

  module _ (sh : ℕ) where
    -- an area without a share is passed over, by number and by place
    abbrev Passes : (c d : List Mark) → Type 0
    Passes c d = (shared_in (given 3 sh (a ∷ l) c) ≡ shared_in (given 3 sh l d))
        × ((k : ℕ) → shared_from k (given 3 sh (a ∷ l) c) ≡ shared_from (k + 1) (given 3 sh l d))

    passed : (c : List Mark) → partial a ≡ false → Passes c c
    unfolding given
    passed c t = (rw t, λ k. rw t)

    left_out : (c : List Mark) → partial a ≡ true → Passes (out ∷ c) c
    unfolding given gets_by first_mark later_marks
    left_out c t = (rw t, λ k. rw t)

    taken-whole : (c : List Mark) → partial a ≡ true → Passes (whole ∷ c) c
    unfolding given gets_by first_mark later_marks
    taken-whole c t = (rw t, λ k. rw t)

    shared : (c : List Mark) → partial a ≡ true → (shared_in (given 3 sh (a ∷ l) (part ∷ c)) ≡ shares a.number sh)
        × ((k : ℕ) → shared_from k (given 3 sh (a ∷ l) (part ∷ c)) ≡ shares k sh)
    unfolding given gets_by first_mark
    shared c t = (rw t, λ k. rw t)

-- an area of the map that has the holding h and is the first to get a share, with its place among the areas
pub record FirstShare (areas : List Area) (licences : List Licence) (sh : ℕ) (c : List Mark) (h : Holding) : Type 0 where
  pub area : Area
  pub member : Memᴰ area areas
  pub held : h ≡ holding_of licences area
  pub shared : shared_in (given 3 sh (holdings_of licences areas) c) ≡ shares area.head.number sh
  pub place : ℕ
  pub inside : place < length areas
  pub stands : get_or (map summary areas) place no_area ≡ summary area
  pub placed : (k : ℕ) → shared_from k (given 3 sh (holdings_of licences areas) c) ≡ shares (k + place) sh

module _ (licences : List Licence) (sh : ℕ) where
  -- it stands among the later areas
  stands-later : (a : Area) (areas : List Area) (c d : List Mark) (h : Holding)
      → Passes (holding_of licences a) (holdings_of licences areas) sh c d
      → FirstShare areas licences sh d h → FirstShare (a ∷ areas) licences sh c h
  stands-later a areas c d h q f = record {
    area = f.area;
    member = Memᴰ.tail f.member;
    held = f.held;
    shared = q.0 ∙ f.shared;
    place = suc f.place;
    inside = omega (arith, f.inside);
    stands = f.stands;
    placed = λ k. q.1 k ∙ f.placed (k + 1) ∙ ap (λ (n : ℕ). shares n sh) (omega arith);
  }

  -- the first area is partial: the choice's next mark says what it gets
  first-here : (a : Area) (areas : List Area) (c : List Mark) (h : Holding) (l : List Holding)
      → partial (holding_of licences a) ≡ true → part_areas (holding_of licences a ∷ partials (holdings_of licences areas)) c ≡ h ∷ l
      → ((d : List Mark) → part_areas (partials (holdings_of licences areas)) d ≡ h ∷ l → FirstShare areas licences sh d h)
      → FirstShare (a ∷ areas) licences sh c h
  unfolding part_areas
  first-here a areas [] h l t e f = absurd (let z : 0 ≡ length (h ∷ l) = ap length e in omega arith)
  first-here a areas (out ∷ c) h l t e f =
      stands-later a areas (out ∷ c) c h (left_out (holding_of licences a) (holdings_of licences areas) sh c t) (f c e)
  first-here a areas (whole ∷ c) h l t e f =
      stands-later a areas (whole ∷ c) c h (taken-whole (holding_of licences a) (holdings_of licences areas) sh c t) (f c e)
  first-here a areas (part ∷ c) h l t e f = record {
    area = a;
    member = Memᴰ.head refl;
    held = cc;
    shared = (shared (holding_of licences a) (holdings_of licences areas) sh c t).0;
    place = 0;
    inside = omega arith;
    stands = refl;
    placed = λ k. (shared (holding_of licences a) (holdings_of licences areas) sh c t).1 k ∙ ap (λ (n : ℕ). shares n sh) (omega arith);
  }

  -- the first area that a choice makes partial gets the share
  first-share : (areas : List Area) (c : List Mark) (h : Holding) (l : List Holding)
      → part_areas (partials (holdings_of licences areas)) c ≡ h ∷ l → FirstShare areas licences sh c h
  unfolding part_areas partials filter
  first-share [] c h l e = absurd (let z : 0 ≡ length (h ∷ l) = ap length e in omega arith)
  first-share (a ∷ areas) c h l e =
      let held = holding_of licences a in
      let rest = holdings_of licences areas in
      by-test (partial held)
      (λ t.
      first-here a areas c h l t (ap (λ (s : List Holding). part_areas s c) (sym (is-partial held rest t)) ∙ e)
      (λ d q. first-share areas d h l q))
      (λ t.
      stands-later a areas c c h (passed held rest sh c t)
      (first-share areas c h l (ap (λ (s : List Holding). part_areas s c) (sym (not-partial held rest t)) ∙ e)))

-- ---- a proposal of kind 3

-- the area with its place among the areas, and its share
pub record OneShare (areas : List Area) (licences : List Licence) (p : Proposal) : Type 0 where
  pub area : Area
  pub share : ℕ
  pub member : Memᴰ area areas
  pub shared : shared_in p.areas ≡ shares area.head.number share
  -- "above 0 and below the M of the partial area"
  pub above : 0 < share
  pub below : share < size (holding_of licences area)
  pub place : ℕ
  pub inside : place < length areas
  pub stands : get_or (map summary areas) place no_area ≡ summary area
  pub placed : shared_from 0 p.areas ≡ shares place share

-- kind 3 has a partial area
kind-part : (sh : ℕ) (parts : List Holding) → kind_of sh parts ≡ 3 → (h : Holding) × (l : List Holding) × (parts ≡ h ∷ l)
unfolding kind_of
kind-part sh [] e = absurd (omega arith)
kind-part sh (h ∷ l) e = (h, l, refl)

-- "the shortfall, written share, is above 0 and below the M of the partial area"
part-bounds : (t sizes : ℕ) (h : Holding) (l : List Holding) → allowed_by t sizes (h ∷ l) ≡ true
    → (0 < t - sizes) × (t - sizes < size h)
unfolding allowed_by
part-bounds t sizes h [] e = (
  ltb-true 0 (t - sizes) (first_of (ltb 0 (t - sizes)) (ltb (t - sizes) (size h)) e),
  ltb-true (t - sizes) (size h) (second-of (ltb 0 (t - sizes)) (ltb (t - sizes) (size h)) e),
)
part-bounds t sizes h (x ∷ l) e = absurd (false≢true e)

module _ (areas : List Area) (licences : List Licence) (draw : ℕ) where
  abbrev held : List Holding
  held = holdings_of licences areas

  abbrev c : List Mark
  c = chosen (partials held) draw

  share-of-choice : (answer_of held c).kind ≡ 3 → OneShare areas licences (answer_of held c)
  unfolding answer_of allowed share
  share-of-choice k =
      let s = partials held in
      let sh = share s c in
      let p = kind-part sh (part_areas s c) k in
      let f = first-share licences sh areas c p.0 p.1 p.2 in
      let ok = ap (allowed_by (total_value s) (whole_size s c)) (sym p.2) ∙ (is-allowed held draw).is-allowed in
      let b = part-bounds (total_value s) (whole_size s c) p.0 p.1 ok in
      record {
        area = f.area;
        share = sh;
        member = f.member;
        shared = ap (λ (n : ℕ). shared_in (given n sh held c)) k ∙ f.shared;
        above = b.0;
        below = subst (λ (h : Holding). sh < size h) f.held b.1;
        place = f.place;
        inside = f.inside;
        stands = f.stands;
        placed = ap (λ (n : ℕ). shared_from 0 (given n sh held c)) k ∙ f.placed 0 ∙ ap (λ (n : ℕ). shares n sh) (omega arith);
      }

  -- a proposal that is not refused and is of kind 3 shares one area
  pub one-share : (proposal held draw).refused ≡ 0 → (proposal held draw).kind ≡ 3 → OneShare areas licences (proposal held draw)
  unfolding proposal refused_by
  one-share r k = go (ltb 20 (length (partials held))) r k
    where
      of : Bool → Proposal
      of b = cond b (refused_by 12) (answer_of held c)

      go : (b : Bool) → (of b).refused ≡ 0 → (of b).kind ≡ 3 → OneShare areas licences (of b)
      go true x y = absurd (omega arith)
      go false x y = share-of-choice y
