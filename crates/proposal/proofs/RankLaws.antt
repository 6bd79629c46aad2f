-- Allowed choices and their ranks, as the definitions have them and as the search has them. For lists of any length. Assumes nothing.
use Prim.Native.Nat.{ℕ, suc, ◌+◌, ◌-◌, ◌*◌, ◌<◌}
use mathlib.Core.Path.{◌≡◌, refl, sym, ap, subst, ◌∙◌}
use mathlib.Core.Bool.{Bool, true, false, cond, not, ◌&&◌, false≢true}
use mathlib.Core.Logic.{◌⊎◌, inl, inr, ⊎_elim}
use mathlib.Core.List.{List, [], ◌∷◌}
use native.Mathlib.Nat.{mul_left_comm}
use native.Mathlib.Omega.{arith}
use lib.Dec.{ltb, leb, eqb}
use lib.ListN.{length, get_or, length-map}
use borrow.Author.Tests.{ltb-true, lt-ltb, le-ltb, leb-true, leb-false, eqb-true, eq-eqb}
use Rattle.lists.proofs.Tests.{by-test, both, first_of, second-of, same_test}
use Rattle.coverage.specs.declared.Holding.{Holding}
use Rattle.coverage.specs.Blocks.{size}
use Rattle.search.specs.declared.Rank as searched
use Rattle.search.specs.Choice as choice
use Rattle.search.specs.Choice.{Mark, out, whole, part, wholes, parts, entry, cap, heft, Allowed, rank_of}
use Rattle.proposal.specs.Choices.{total_value, whole_areas, part_areas, whole_size, share, allowed_by, allowed}
use Rattle.proposal.specs.Best.{Rank, is_all_whole, white_space, white_per, rank, ahead}
use Rattle.proposal.specs.Code.{sizes, weights}
use Rattle.proposal.proofs.ChoiceLaws.{spot, shapes, shape, entry-none, entry-one}

-- ---- the areas of a choice

-- the sizes of the whole areas, added
pub whole_same : (s : List Holding) (c : List Mark) → whole_size s c ≡ wholes (sizes s) c
unfolding whole_size whole_areas wholes
whole_same [] c = refl
whole_same (a ∷ s) [] = refl
whole_same (a ∷ s) (out ∷ c) = whole_same s c
whole_same (a ∷ s) (whole ∷ c) = ap (λ n. size a + n) (whole_same s c)
whole_same (a ∷ s) (part ∷ c) = whole_same s c

part_count : (s : List Holding) (c : List Mark) → length c ≡ length s → length (part_areas s c) ≡ parts c
unfolding part_areas parts
part_count [] [] h = refl
part_count [] (m ∷ c) h = absurd (omega arith)
part_count (a ∷ s) [] h = absurd (omega arith)
part_count (a ∷ s) (out ∷ c) h = part_count s c (omega arith)
part_count (a ∷ s) (whole ∷ c) h = part_count s c (omega arith)
part_count (a ∷ s) (part ∷ c) h = ap suc (part_count s c (omega arith))

none_of : (l : List Holding) → length l ≡ 0 → l ≡ []
none_of [] h = refl
none_of (a ∷ l) h = absurd (omega arith)

-- the partial area is the one at its place
pub record TheArea (s : List Holding) (c : List Mark) : Type 0 where
  pub area : Holding
  pub only : part_areas s c ≡ area ∷ []
  pub its-size : get_or (sizes s) (spot c) 0 ≡ size area
  pub its-weight : get_or (weights s) (spot c) 0 ≡ area.weight

pub the-area : (s : List Holding) (c : List Mark) → length c ≡ length s → parts c ≡ 1 → TheArea s c
unfolding parts part_areas spot
the-area [] [] h o = absurd (omega arith)
the-area [] (m ∷ c) h o = absurd (omega arith)
the-area (a ∷ s) [] h o = absurd (omega arith)
the-area (a ∷ s) (out ∷ c) h o =
    let r = the-area s c (omega arith) o in
    record { area = r.area; only = r.only; its-size = r.its-size; its-weight = r.its-weight }
the-area (a ∷ s) (whole ∷ c) h o =
    let r = the-area s c (omega arith) o in
    record { area = r.area; only = r.only; its-size = r.its-size; its-weight = r.its-weight }
the-area (a ∷ s) (part ∷ c) h o = record {
  area = a;
  only = ap (λ l. a ∷ l) (none_of (part_areas s c) (part_count s c (omega arith) ∙ omega arith));
  its-size = refl;
  its-weight = refl;
}

-- ---- allowed

module _ (s : List Holding) (c : List Mark) (h : length c ≡ length s) where
  pub no-area : parts c ≡ 0 → part_areas s c ≡ []
  no-area o = none_of (part_areas s c) (part_count s c h ∙ o)

  allowed-none : parts c ≡ 0 → allowed s c ≡ eqb (whole_size s c) (total_value s)
  unfolding allowed allowed_by
  allowed-none o = ap (λ l. allowed_by (total_value s) (whole_size s c) l) (no-area o)

  allowed-one : (t : TheArea s c) → allowed s c ≡ (ltb 0 (share s c) && ltb (share s c) (size t.area))
  unfolding allowed allowed_by share
  allowed-one t = ap (λ l. allowed_by (total_value s) (whole_size s c) l) t.only

  allowed-many : 1 < parts c → allowed s c ≡ false
  unfolding allowed allowed_by
  allowed-many o = go (part_areas s c) (let n = part_count s c h in omega arith)
    where
      go : (l : List Holding) → 1 < length l → allowed_by (total_value s) (whole_size s c) l ≡ false
      go [] q = absurd (omega arith)
      go (a ∷ []) q = absurd (omega arith)
      go (a ∷ b ∷ l) q = refl

  pub cap-one : parts c ≡ 1 → (t : TheArea s c) → cap (sizes s) (entry c) ≡ size t.area
  cap-one o t = ap (λ e. cap (sizes s) e) (entry-one c o) ∙ t.its-size

  heft-one : parts c ≡ 1 → (t : TheArea s c) → heft (weights s) (entry c) ≡ t.area.weight
  heft-one o t = ap (λ e. heft (weights s) e) (entry-one c o) ∙ t.its-weight

  pub share-same : share s c ≡ choice.share (total_value s) (sizes s) c
  unfolding share
  share-same = ap (λ n. total_value s - n) (whole_same s c)

  pub to-allowed : allowed s c ≡ true → Allowed (total_value s) (sizes s) c
  to-allowed a =
      ⊎_elim none
      (λ r. ⊎_elim (λ o. the_one o (the-area s c h o)) (λ o. absurd (false≢true (sym (allowed-many o) ∙ a))) r)
      (shapes c)
    where
      each : length c ≡ length (sizes s)
      each = h ∙ sym (length-map s size)

      w : whole_size s c ≡ wholes (sizes s) c
      w = whole_same s c

      none : parts c ≡ 0 → Allowed (total_value s) (sizes s) c
      none o =
          let e = eqb-true (whole_size s c) (total_value s) (sym (allowed-none o) ∙ a) in
          record {
            each = each;
            one = omega arith;
            under = omega (arith, w);
            proper = inl (entry-none c o, omega (arith, w));
          }

      the_one : parts c ≡ 1 → TheArea s c → Allowed (total_value s) (sizes s) c
      the_one o t =
          let q = sym (allowed-one t) ∙ a in
          let low = ltb-true 0 (share s c) (first_of (ltb 0 (share s c)) (ltb (share s c) (size t.area)) q) in
          let high = ltb-true (share s c) (size t.area) (second-of (ltb 0 (share s c)) (ltb (share s c) (size t.area)) q) in
          let k = cap-one o t in
          let z = share-same in
          record { each = each; one = omega arith; under = omega arith; proper = inr (omega arith, omega arith) }

  pub of-allowed : Allowed (total_value s) (sizes s) c → allowed s c ≡ true
  of-allowed a = ⊎_elim none (λ o. the_one o (the-area s c h o)) (shape c a.one)
    where
      none : parts c ≡ 0 → allowed s c ≡ true
      none o =
          let k : cap (sizes s) (entry c) ≡ 0 = ap (λ e. cap (sizes s) e) (entry-none c o) in
          allowed-none o
          ∙ eq-eqb (whole_size s c) (total_value s)
          (⊎_elim (λ u. omega (arith, a.under, whole_same s c)) (λ u. absurd (omega arith)) a.proper)

      the_one : parts c ≡ 1 → TheArea s c → allowed s c ≡ true
      the_one o t =
          let k = cap-one o t in
          let z = share-same in
          allowed-one t
          ∙ ⊎_elim
          (λ u. absurd (omega (arith, entry-one c o)))
          (λ u. both (lt-ltb 0 (share s c) (omega arith)) (lt-ltb (share s c) (size t.area) (omega arith)))
          a.proper

-- ---- ranks

-- a test and its opposite
pub opposite : (a b : ℕ) → ltb b a ≡ not (leb a b)
opposite a b =
    by-test (leb a b)
    (λ t. le-ltb b a (leb-true a b t) ∙ ap not (sym t))
    (λ t. lt-ltb b a (leb-false a b t) ∙ ap not (sym t))

-- one rank in the two forms. The weight stands for white-space people, which are fractions over 100 × weight, and for none if exact
pub record Matches (l : Rank) (r : searched.Rank) : Type 0 where
  pub far : r.far ≡ not l.all_whole
  pub white : r.white ≡ l.white
  pub weight : (l.per ≡ 100 * r.weight) ⊎ ((l.white ≡ 0) × (l.per ≡ r.weight))

-- a comparison of both sides a hundredfold, or of equal ones
compared : (a b c d : ℕ) → ((a ≡ 100 * c) × (b ≡ 100 * d)) ⊎ ((a ≡ c) × (b ≡ d)) → ltb a b ≡ ltb c d
compared a b c d (inl e) =
    same_test (ltb a b) (ltb c d)
    (λ h. lt-ltb c d (omega (arith, ltb-true a b h)))
    (λ h. lt-ltb a b (omega (arith, ltb-true c d h)))
compared a b c d (inr e) = λ i. ltb (e.0 i) (e.1 i)

module _ (l l' : Rank) (r r' : searched.Rank) (m : Matches l r) (m' : Matches l' r') where
  people-same : ltb (l.white * l'.per) (l'.white * l.per) ≡ ltb (l.white * r'.weight) (l'.white * r.weight)
  people-same =
      compared (l.white * l'.per) (l'.white * l.per) (l.white * r'.weight) (l'.white * r.weight) (go m.weight m'.weight)
    where
      hundredfold : (x w p : ℕ) → p ≡ 100 * w → x * p ≡ 100 * (x * w)
      hundredfold x w p e = ap (λ n. x * n) e ∙ mul_left_comm x 100 w

      nothing : (x a b : ℕ) → x ≡ 0 → x * a ≡ x * b
      nothing x a b e = rw e (omega arith)

      go : (l.per ≡ 100 * r.weight) ⊎ ((l.white ≡ 0) × (l.per ≡ r.weight))
          → (l'.per ≡ 100 * r'.weight) ⊎ ((l'.white ≡ 0) × (l'.per ≡ r'.weight))
          → ((l.white * l'.per ≡ 100 * (l.white * r'.weight)) × (l'.white * l.per ≡ 100 * (l'.white * r.weight)))
          ⊎ ((l.white * l'.per ≡ l.white * r'.weight) × (l'.white * l.per ≡ l'.white * r.weight))
      go (inl p) (inl q) = inl (hundredfold l.white r'.weight l'.per q, hundredfold l'.white r.weight l.per p)
      go (inr p) q = inr (nothing l.white l'.per r'.weight p.0, ap (λ n. l'.white * n) p.1)
      go (inl p) (inr q) = inr (ap (λ n. l.white * n) q.1, nothing l'.white l.per r.weight q.0)

  -- ranks compare alike
  pub ahead-same : ahead l l' ≡ choice.ahead r r'
  unfolding ahead choice.ahead
  ahead-same =
      flags l.all_whole l'.all_whole _
      ∙ (λ i. cond (not (sym m.far i) && sym m'.far i) true
      (cond (not (sym m'.far i) && sym m.far i) false
      (cond (ltb (sym m.white i) (sym m'.white i)) true
      (cond (ltb (sym m'.white i) (sym m.white i)) false (last i)))))
    where
      flags : (p q x : Bool) → cond (p && not q) true (cond (q && not p) false x)
          ≡ cond (not (not p) && not q) true (cond (not (not q) && not p) false x)
      flags true true x = refl
      flags true false x = refl
      flags false true x = refl
      flags false false x = refl

      last : ltb (l.white * l'.per) (l'.white * l.per) ≡ ltb (r.white * r'.weight) (r'.white * r.weight)
      last = people-same ∙ (λ i. ltb (sym m.white i * r'.weight) (sym m'.white i * r.weight))

module _ (s : List Holding) (c : List Mark) (h : length c ≡ length s) (a : Allowed (total_value s) (sizes s) c) where
  -- the search's rank of a choice with no partial area, and with one
  rank-none : parts c ≡ 0 → choice.rank (total_value s) (sizes s) (weights s) c ≡ rank_of 0 0 1
  rank-none o =
      let k : cap (sizes s) (entry c) ≡ 0 = ap (λ e. cap (sizes s) e) (entry-none c o) in
      let w : choice.white (total_value s) (sizes s) c ≡ 0 = omega arith in
      let v : heft (weights s) (entry c) ≡ 1 = ap (λ e. heft (weights s) e) (entry-none c o) in
      λ i. rank_of (k i) (w i) (v i)

  pub rank-one : parts c ≡ 1 → (t : TheArea s c)
      → choice.rank (total_value s) (sizes s) (weights s) c ≡ rank_of (size t.area) (size t.area - share s c) t.area.weight
  rank-one o t =
      let w : choice.white (total_value s) (sizes s) c ≡ size t.area - share s c = λ i. cap-one s c h o t i - sym (share-same s c h) i in
      λ i. rank_of (cap-one s c h o t i) (w i) (heft-one s c h o t i)

  pub share-below : parts c ≡ 1 → (t : TheArea s c) → share s c < size t.area
  share-below o t =
      ⊎_elim (λ u. absurd (omega (arith, entry-one c o))) (λ u. omega (arith, cap-one s c h o t, share-same s c h)) a.proper

  pub matches : Matches (rank s c) (choice.rank (total_value s) (sizes s) (weights s) c)
  unfolding rank is_all_whole white_space white_per rank_of
  matches = ⊎_elim none (λ o. the_one o (the-area s c h o)) (shape c a.one)
    where
      by : List Holding → Rank
      by l = record { all_whole = is_all_whole (share s c) l; white = white_space (share s c) l; per = white_per l }

      moved : (l : List Holding) (r : searched.Rank) → part_areas s c ≡ l → choice.rank (total_value s) (sizes s) (weights s) c ≡ r
          → Matches (by l) r → Matches (rank s c) (choice.rank (total_value s) (sizes s) (weights s) c)
      moved l r e f m =
          subst (λ (x : List Holding). Matches (by x) (choice.rank (total_value s) (sizes s) (weights s) c)) (sym e)
          (subst (λ (x : searched.Rank). Matches (by l) x) (sym f) m)

      none : parts c ≡ 0 → Matches (rank s c) (choice.rank (total_value s) (sizes s) (weights s) c)
      none o = moved [] (rank_of 0 0 1) (no-area s c h o) (rank-none o) (record { far = refl; white = refl; weight = inr (refl, refl) })

      the_one : parts c ≡ 1 → TheArea s c → Matches (rank s c) (choice.rank (total_value s) (sizes s) (weights s) c)
      the_one o t =
          let b = share-below o t in
          let back : size t.area - (size t.area - share s c) ≡ share s c = omega arith in
          moved (t.area ∷ []) (rank_of (size t.area) (size t.area - share s c) t.area.weight) t.only (rank-one o t)
          (record {
            far = ap (λ x. ltb (10 * x) (9 * size t.area)) back ∙ opposite (9 * size t.area) (10 * share s c);
            white = refl;
            weight = inl refl;
          })
