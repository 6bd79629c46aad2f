-- A proposal reads of an area its number and weight, its whole blocks, whether it is partial, its v and its M, and nothing else but the
-- cells that it shows. Assumes nothing.
use Prim.Native.Nat.{ℕ, suc, ◌+◌, ◌*◌, ◌-◌}
use mathlib.Core.Path.{◌≡◌, refl, sym, ap, subst, ◌∙◌}
use mathlib.Core.Bool.{Bool, true, false, cond, ◌&&◌}
use mathlib.Core.List.{List, [], ◌∷◌}
use lib.Dec.{ltb, leb}
use lib.ListN.{length}
use Rattle.lists.specs.Sums.{any}
use Rattle.lists.specs.Filters.{filter, up_to, foremost}
use Rattle.lists.proofs.Tests.{by-test}
use Rattle.coverage.specs.declared.Holding.{Holding}
use Rattle.coverage.specs.Blocks.{partial}
use Rattle.search.specs.Choice.{Mark, out, whole, part}
use Rattle.subset.specs.Rule.{smallest}
use Rattle.proposal.specs.Choices.{
  partials,
  total_value,
  choices,
  whole_areas,
  part_areas,
  whole_size,
  share,
  allowed_by,
  allowed,
  allowed_choices,
  makes_part,
  whole_set,
}
use Rattle.proposal.specs.Best.{is_all_whole, white_space, white_per, rank, ahead, best, tied, drawn, chosen}
use Rattle.proposal.specs.Answer.{
  kind_of,
  gets_nothing,
  gets_by,
  first_mark,
  later_marks,
  given,
  Proposal,
  refused_by,
  answer_of,
  proposal,
}
use Rattle.proposal.specs.Terms.{Pairwise, SameTerms, SameGiven, SameProposal, SameProposals}

-- areas that agree, one by one
abbrev Agree : List Holding → List Holding → Type 0
Agree s t = Pairwise SameTerms s t

-- ---- S, and what a choice takes of it

agree-length : (s t : List Holding) → Agree s t → length s ≡ length t
agree-length [] [] h = refl
agree-length [] (b ∷ t) h = absurd h
agree-length (a ∷ s) [] h = absurd h
agree-length (a ∷ s) (b ∷ t) h = ap suc (agree-length s t h.1)

agree-partials : (xs ys : List Holding) → Agree xs ys → Agree (partials xs) (partials ys)
unfolding partials filter
agree-partials [] [] h = tt
agree-partials [] (b ∷ ys) h = absurd h
agree-partials (a ∷ xs) [] h = absurd h
agree-partials (a ∷ xs) (b ∷ ys) h =
    let later = agree-partials xs ys h.1 in
    by-test (partial a)
    (λ t. rw (t, sym h.0.part ∙ t) (h.0, later))
    (λ t. rw (t, sym h.0.part ∙ t) later)

agree-total : (s t : List Holding) → Agree s t → total_value s ≡ total_value t
unfolding total_value
agree-total [] [] h = refl
agree-total [] (b ∷ t) h = absurd h
agree-total (a ∷ s) [] h = absurd h
agree-total (a ∷ s) (b ∷ t) h = λ i. h.0.value i + agree-total s t h.1 i

agree-whole : (s t : List Holding) → Agree s t → (c : List Mark) → whole_size s c ≡ whole_size t c
unfolding whole_size whole_areas
agree-whole [] [] h c = refl
agree-whole [] (b ∷ t) h c = absurd h
agree-whole (a ∷ s) [] h c = absurd h
agree-whole (a ∷ s) (b ∷ t) h [] = refl
agree-whole (a ∷ s) (b ∷ t) h (out ∷ c) = agree-whole s t h.1 c
agree-whole (a ∷ s) (b ∷ t) h (whole ∷ c) = λ i. h.0.size i + agree-whole s t h.1 c i
agree-whole (a ∷ s) (b ∷ t) h (part ∷ c) = agree-whole s t h.1 c

agree-parts : (s t : List Holding) → Agree s t → (c : List Mark) → Agree (part_areas s c) (part_areas t c)
unfolding part_areas
agree-parts [] [] h c = tt
agree-parts [] (b ∷ t) h c = absurd h
agree-parts (a ∷ s) [] h c = absurd h
agree-parts (a ∷ s) (b ∷ t) h [] = tt
agree-parts (a ∷ s) (b ∷ t) h (out ∷ c) = agree-parts s t h.1 c
agree-parts (a ∷ s) (b ∷ t) h (whole ∷ c) = agree-parts s t h.1 c
agree-parts (a ∷ s) (b ∷ t) h (part ∷ c) = (h.0, agree-parts s t h.1 c)

-- ---- what is read of the areas that a choice makes partial

agree-allowed : (n m : ℕ) (l k : List Holding) → Agree l k → allowed_by n m l ≡ allowed_by n m k
unfolding allowed_by
agree-allowed n m [] [] h = refl
agree-allowed n m [] (b ∷ k) h = absurd h
agree-allowed n m (a ∷ l) [] h = absurd h
agree-allowed n m (a ∷ []) (b ∷ []) h = ap (λ (k : ℕ). ltb 0 (n - m) && ltb (n - m) k) h.0.size
agree-allowed n m (a ∷ []) (b ∷ d ∷ k) h = absurd h.1
agree-allowed n m (a ∷ c ∷ l) (b ∷ []) h = absurd h.1
agree-allowed n m (a ∷ c ∷ l) (b ∷ d ∷ k) h = refl

agree-all-whole : (sh : ℕ) (l k : List Holding) → Agree l k → is_all_whole sh l ≡ is_all_whole sh k
unfolding is_all_whole
agree-all-whole sh [] [] h = refl
agree-all-whole sh [] (b ∷ k) h = absurd h
agree-all-whole sh (a ∷ l) [] h = absurd h
agree-all-whole sh (a ∷ l) (b ∷ k) h = ap (λ (m : ℕ). leb (9 * m) (10 * sh)) h.0.size

agree-white : (sh : ℕ) (l k : List Holding) → Agree l k → white_space sh l ≡ white_space sh k
unfolding white_space
agree-white sh [] [] h = refl
agree-white sh [] (b ∷ k) h = absurd h
agree-white sh (a ∷ l) [] h = absurd h
agree-white sh (a ∷ l) (b ∷ k) h = ap (λ (m : ℕ). m - sh) h.0.size

agree-per : (l k : List Holding) → Agree l k → white_per l ≡ white_per k
unfolding white_per
agree-per [] [] h = refl
agree-per [] (b ∷ k) h = absurd h
agree-per (a ∷ l) [] h = absurd h
agree-per (a ∷ l) (b ∷ k) h = ap (λ (w : ℕ). 100 * w) h.0.weight

agree-kind : (sh : ℕ) (l k : List Holding) → Agree l k → kind_of sh l ≡ kind_of sh k
unfolding kind_of
agree-kind sh [] [] h = refl
agree-kind sh [] (b ∷ k) h = absurd h
agree-kind sh (a ∷ l) [] h = absurd h
agree-kind sh (a ∷ l) (b ∷ k) h = ap (λ (t : Bool). cond t 2 3) (agree-all-whole sh (a ∷ l) (b ∷ k) h)

-- each area is given the same
agree-given : (kind sh : ℕ) (xs ys : List Holding) → Agree xs ys → (c d : List Mark) → c ≡ d
    → Pairwise SameGiven (given kind sh xs c) (given kind sh ys d)
unfolding given
agree-given kind sh [] [] h c d e = tt
agree-given kind sh [] (b ∷ ys) h c d e = absurd h
agree-given kind sh (a ∷ xs) [] h c d e = absurd h
agree-given kind sh (a ∷ xs) (b ∷ ys) h c d e =
    let p = h.0.part in (
      record {
        number = h.0.number;
        blocks = h.0.whole;
        gets = λ i. cond (p i) (gets_by kind sh (first_mark (e i))) gets_nothing;
      },
      agree-given kind sh xs ys h.1 _ _ (λ i. cond (p i) (later_marks (e i)) (e i)),
    )

-- ---- choices from S

module _ (s t : List Holding) (h : Agree s t) where
  same-share : (c : List Mark) → share s c ≡ share t c
  unfolding share
  same-share c = λ i. agree-total s t h i - agree-whole s t h c i

  same-allowed : (c : List Mark) → allowed s c ≡ allowed t c
  unfolding allowed
  same-allowed c =
      (λ i. allowed_by (agree-total s t h i) (agree-whole s t h c i) (part_areas s c))
      ∙ agree-allowed (total_value t) (whole_size t c) (part_areas s c) (part_areas t c) (agree-parts s t h c)

  -- all that is read of the partial areas at a share
  same_by : {B : Type 0} (read : ℕ → List Holding → B) → ((sh : ℕ) (l k : List Holding) → Agree l k → read sh l ≡ read sh k) →
      (c : List Mark) → read (share s c) (part_areas s c) ≡ read (share t c) (part_areas t c)
  same_by read agree c =
      ap (λ (sh : ℕ). read sh (part_areas s c)) (same-share c) ∙ agree (share t c) (part_areas s c) (part_areas t c) (agree-parts s t h c)

  same_rank : (c : List Mark) → rank s c ≡ rank t c
  unfolding rank
  same_rank c = λ i. record {
    all_whole = same_by is_all_whole agree-all-whole c i;
    white = same_by white_space agree-white c i;
    per = same_by (λ _. white_per) (λ _. agree-per) c i;
  }

  same-best : best s ≡ best t
  unfolding best allowed_choices
  same-best =
      λ i. foremost (λ d c. ahead (same_rank d i) (same_rank c i)) (filter (λ c. same-allowed c i) (choices (agree-length s t h i)))

  same-tied : tied s ≡ tied t
  unfolding tied
  same-tied = λ i. filter (λ p. any (makes_part p) (same-best i)) (up_to (agree-length s t h i))

  same_chosen : (draw : ℕ) → chosen s draw ≡ chosen t draw
  unfolding chosen
  same_chosen draw = λ i. smallest whole_set [] (drawn (same-tied i) draw (same-best i))

-- ---- the proposal

module _ (xs ys : List Holding) (h : Pairwise SameTerms xs ys) where
  abbrev s : List Holding
  s = partials xs

  abbrev t : List Holding
  t = partials ys

  agree : Agree s t
  agree = agree-partials xs ys h

  answers-same : (draw : ℕ) → SameProposal (answer_of xs (chosen s draw)) (answer_of ys (chosen t draw))
  unfolding answer_of
  answers-same draw = record {
    refused = refl;
    kind = k;
    target = agree-total s t agree;
    white = same_by s t agree white_space agree-white c ∙ ap (λ (m : List Mark). white_space (share t m) (part_areas t m)) e;
    tied = ap length (same-tied s t agree);
    given =
        subst (λ (n : ℕ × ℕ). Pairwise SameGiven (given kind sh xs c) (given n.0 n.1 ys d)) (λ i. (k i, z i))
        (agree-given kind sh xs ys h c d e);
  }
    where
      c : List Mark
      c = chosen s draw

      d : List Mark
      d = chosen t draw

      e : c ≡ d
      e = same_chosen s t agree draw

      sh : ℕ
      sh = share s c

      kind : ℕ
      kind = kind_of (share s c) (part_areas s c)

      z : share s c ≡ share t d
      z = same-share s t agree c ∙ ap (share t) e

      k : kind_of (share s c) (part_areas s c) ≡ kind_of (share t d) (part_areas t d)
      k = same_by s t agree kind_of agree-kind c ∙ ap (λ (m : List Mark). kind_of (share t m) (part_areas t m)) e

  proposals-same : (draw : ℕ) → SameProposal (proposal xs draw) (proposal ys draw)
  unfolding proposal refused_by
  proposals-same draw =
      subst (λ (n : ℕ). SameProposal (cond (ltb 20 (length s)) (refused_by 12) p) (cond (ltb 20 n) (refused_by 12) q))
      (agree-length s t agree) (either (ltb 20 (length s)))
    where
      p : Proposal
      p = answer_of xs (chosen s draw)

      q : Proposal
      q = answer_of ys (chosen t draw)

      either : (b : Bool) → SameProposal (cond b (refused_by 12) p) (cond b (refused_by 12) q)
      either true = record { refused = refl; kind = refl; target = refl; white = refl; tied = refl; given = tt }
      either false = answers-same draw

  -- areas that agree in what a proposal reads have the same proposals
  pub terms-only : SameProposals xs ys
  terms-only = record {
    shares = same-share s t agree;
    allows = same-allowed s t agree;
    ranks = same_rank s t agree;
    proposals = proposals-same;
  }
