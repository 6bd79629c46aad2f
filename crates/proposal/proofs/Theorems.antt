-- Document 01's words about the proposal hold of the definitions, for every list of areas and every draw. Assumes nothing.
use Prim.Native.Nat.{ℕ, zero, suc, ◌+◌, ◌%◌, ◌<◌, ◌≤◌}
use mathlib.Core.Path.{◌≡◌, refl, sym, ap, subst, ◌∙◌}
use mathlib.Core.Bool.{Bool, true, false, cond, true≢false, false≢true}
use mathlib.Core.Logic.{◌↔◌}
use mathlib.Core.List.{List, [], ◌∷◌, map, Memᴰ}
use native.Mathlib.Omega.{arith}
use lib.Dec.{ltb, eqb}
use lib.ListN.{length, get_or, length-append}
use borrow.Author.Tests.{le-ltb}
use Rattle.lists.specs.Sums.{any, count}
use Rattle.lists.specs.Filters.{filter, up_to}
use Rattle.lists.proofs.Tests.{by-test}
use Rattle.lists.proofs.FilterLaws.{mem-filter, filter-mem, any_some, some-any, filter-append, in-up_to, up_to-below}
use Rattle.coverage.specs.declared.Holding.{Holding}
use Rattle.coverage.specs.Blocks.{partial}
use Rattle.search.specs.Choice.{Mark, out, whole, part}
use Rattle.proposal.specs.Choices.{partials, part_areas, share, makes_part, no_part}
use Rattle.proposal.specs.Best.{is_all_whole, rank, ahead, best, tied, drawn, chosen}
use Rattle.proposal.specs.Answer.{
  kind_of,
  gets_nothing,
  gets_rounded_up,
  gets_share,
  gets_by,
  first_mark,
  later_marks,
  given,
  AreaCells,
  cells_given,
  cells_shown,
  refused_by,
  answer_of,
  proposal,
}
use Rattle.proposal.specs.Demand.{as_mark, as_choice, AllowedFrom, LevelOrBehind, AllWhole, Right, Wins}
use Rattle.proposal.proofs.ChoiceLaws.{part-entry, none-entry, same-entry}
use Rattle.proposal.proofs.RankLaws.{to-allowed, of-allowed}
use Rattle.proposal.proofs.BestLaws.{compare_same, to-best, in-best, chosen-best, chosen-length, chosen-drawn, chosen-least}
use Rattle.proposal.proofs.GatherLaws.{fits}

-- ---- the choice that wins

-- a filtered list of numbers below n is as long as there are numbers that pass
count-filter : (test : ℕ → Bool) (n : ℕ) → length (filter test (up_to n)) ≡ count test n
unfolding up_to filter count
count-filter test zero = refl
count-filter test (suc n) =
    ap length (filter-append test (up_to n) (n ∷ []))
    ∙ length-append (filter test (up_to n)) (cond (test n) (n ∷ []) [])
    ∙ (λ i. count-filter test n i + one (test n) i)
  where
    one : (b : Bool) → length (cond b (n ∷ []) []) ≡ cond b 1 0
    one true = refl
    one false = refl

module _ (areas : List Holding) (draw : ℕ) where
  abbrev s : List Holding
  s = partials areas

  abbrev c : List Mark
  c = chosen (partials areas) draw

  -- the choice that wins is an allowed choice from S, so some choice is always allowed
  pub is-allowed : AllowedFrom s c
  is-allowed = record {
    each = chosen-length s draw (fits areas);
    is-allowed = of-allowed s c (chosen-length s draw (fits areas)) (chosen-best s draw (fits areas)).allowed;
  }

  -- every allowed choice ranks level with it or behind it
  pub none_ahead : (d : List Mark) → AllowedFrom s d → LevelOrBehind s d c
  none_ahead d h =
      let b = chosen-best s draw (fits areas) in
      let a = to-allowed s d h.each h.is-allowed in
      compare_same s d c a b.allowed ∙ b.first d a

  -- it is all whole exactly when some allowed choice is
  pub all_whole : AllWhole s c ↔ ((d : List Mark) × AllowedFrom s d × AllWhole s d)
  unfolding ahead
  all_whole = (
    λ h. (c, is-allowed, h),
    λ x. by-test (rank s c).all_whole
        (λ t. t)
        (λ t. absurd (true≢false (sym (rw (t, x.2)) ∙ none_ahead x.0 x.1))),
  )

  -- kinds 1 and 2 are all whole
  pub kind-whole : (kind_of (share s c) (part_areas s c) ≤ 2) ↔ AllWhole s c
  unfolding rank kind_of is_all_whole
  kind-whole = of (part_areas s c)
    where
      two : (b : Bool) → (cond b 2 3 ≤ 2) ↔ (b ≡ true)
      two true = (λ h. refl, λ e. omega arith)
      two false = (λ h. absurd (omega arith), λ e. absurd (false≢true e))

      of : (l : List Holding) → (kind_of (share s c) l ≤ 2) ↔ (is_all_whole (share s c) l ≡ true)
      of [] = (λ h. refl, λ e. omega arith)
      of (a ∷ l) = two (is_all_whole (share s c) (a ∷ l))

  pub wins : Wins s draw c
  unfolding tied drawn
  wins = record {
    is-best = in-best s c (chosen-best s draw (fits areas));
    tied-areas = λ p. (
      λ m. (
          let r = mem-filter test (up_to (length s)) p m in
          (up_to-below (length s) p r.0, any_some (makes_part p) (best s) r.1)),
      λ x. filter-mem test (up_to (length s)) p (in-up_to (length s) p x.0)
          (some-any (makes_part p) (best s) x.1.0 x.1.1 x.1.2),
    );
    tied-count = count-filter test (length s);
    exact = (λ h. none (tied s) h in-drawn, λ h. no-ties (tied s) h in-drawn);
    drawn = λ h. ties (tied s) h in-drawn;
    least = λ d m e. chosen-least s draw (fits areas) d (to-best s d m)
        (same-entry d c (to-best s d m).allowed.one (chosen-best s draw (fits areas)).allowed.one e);
  }
    where
      test : ℕ → Bool
      test p = any (makes_part p) (best s)

      in-drawn : Memᴰ c (drawn (tied s) draw (best s))
      in-drawn = chosen-drawn s draw (fits areas)

      no-ties : (l : List ℕ) → length l ≡ 0 → Memᴰ c (drawn l draw (best s)) → no_part c ≡ true
      no-ties [] h m = (mem-filter no_part (best s) c m).1
      no-ties (p ∷ l) h m = absurd (omega arith)

      -- no place is partial in an exact choice
      none : (l : List ℕ) → no_part c ≡ true → Memᴰ c (drawn l draw (best s)) → length l ≡ 0
      none [] h m = refl
      none (p ∷ l) h m =
          let one = (chosen-best s draw (fits areas)).allowed.one in
          let q = get_or (p ∷ l) (draw % length (p ∷ l)) 0 in
          let at = (part-entry c one q).0 (mem-filter (makes_part q) (best s) c m).1 in
          let z = (none-entry c one).0 h in
          absurd (omega arith)

      ties : (l : List ℕ) → 0 < length l → Memᴰ c (drawn l draw (best s)) → makes_part (get_or l (draw % length l) 0) c ≡ true
      ties [] h m = absurd (omega arith)
      ties (p ∷ l) h m = (mem-filter (makes_part (get_or (p ∷ l) (draw % length (p ∷ l)) 0)) (best s) c m).1

-- some choice is always allowed
pub some-allowed : (areas : List Holding) → (d : List Mark) × AllowedFrom (partials areas) d
some-allowed areas = (chosen (partials areas) 0, is-allowed areas 0)

-- ---- the proposal as a choice

mark-back : (kind sh : ℕ) (m : Mark) → as_mark (gets_by kind sh m) ≡ m
unfolding as_mark gets_by
mark-back kind sh out = refl
mark-back kind sh whole = refl
mark-back kind sh part = either (eqb kind 2)
  where
    either : (b : Bool) → as_mark (cond b gets_rounded_up (gets_share sh)) ≡ part
    either true = refl
    either false = refl

-- what the areas are given says which choice it was
read_back : (kind sh : ℕ) (areas : List Holding) (c : List Mark) → length c ≡ length (partials areas)
    → as_choice areas (given kind sh areas c) ≡ c
unfolding as_choice given partials filter first_mark later_marks
read_back kind sh [] [] h = refl
read_back kind sh [] (m ∷ c) h = absurd (omega arith)
read_back kind sh (a ∷ areas) c h = go (partial a) c h (λ d k. read_back kind sh areas d k)
  where
    P : List Holding
    P = filter partial areas

    go : (b : Bool) (c : List Mark) → length c ≡ length (cond b (a ∷ P) P)
        → ((d : List Mark) → length d ≡ length P → as_choice areas (given kind sh areas d) ≡ d)
        → cond b
        (as_mark (cond b (gets_by kind sh (first_mark c)) gets_nothing) ∷ as_choice areas (given kind sh areas (cond b (later_marks c) c)))
        (as_choice areas (given kind sh areas (cond b (later_marks c) c))) ≡ c
    go true [] e later = absurd (omega arith)
    go true (m ∷ c) e later = λ i. mark-back kind sh m i ∷ later c (omega arith) i
    go false c e later = later c e

-- a proposal that is not refused by 12
pub proposed-is : (areas : List Holding) (draw : ℕ) → length (partials areas) ≤ 20
    → answer_of areas (chosen (partials areas) draw) ≡ proposal areas draw
unfolding proposal
proposed-is areas draw few =
    sym (ap (λ b. cond b (refused_by 12) (answer_of areas (chosen (partials areas) draw))) (le-ltb 20 (length (partials areas)) few))

-- document 02, Paper 1: "The proposal shows the sum of cells for each map area": that of each area, whatever the choice
abbrev pub cells_held : Holding → AreaCells
cells_held a = record { number = a.number; cells = a.cells.0 }

given-cells : (kind sh : ℕ) (areas : List Holding) (c : List Mark) → map cells_given (given kind sh areas c) ≡ map cells_held areas
unfolding given
given-cells kind sh [] c = refl
given-cells kind sh (a ∷ areas) c = ap (λ l. cells_held a ∷ l) (given-cells kind sh areas _)

pub shows-cells : (areas : List Holding) (draw : ℕ) → length (partials areas) ≤ 20
    → cells_shown (proposal areas draw) ≡ map cells_held areas
unfolding answer_of
shows-cells areas draw few = ap cells_shown (sym (proposed-is areas draw few)) ∙ given-cells _ _ areas _

-- "12: more than 20 partial areas": the number that comes over an accepted map
pub refused-by : (areas : List Holding) (draw : ℕ) → (proposal areas draw).refused ≡ cond (ltb 20 (length (partials areas))) 12 0
unfolding proposal refused_by answer_of
refused-by areas draw = by-test (ltb 20 (length (partials areas))) (λ t. simp t) (λ t. simp t)

-- what demand 3 says of a proposal that is not refused
pub right : (areas : List Holding) (draw : ℕ) → length (partials areas) ≤ 20 → Right areas (proposal areas draw)
unfolding answer_of
right areas draw few =
    subst (Right areas) (proposed-is areas draw few) (
    record {
      from-s = subst (AllowedFrom (s areas draw)) (sym back) (is-allowed areas draw);
      none_ahead = λ d h. subst (λ (x : List Mark). LevelOrBehind (s areas draw) d x) (sym back) (none_ahead areas draw d h);
      all_whole = (
        λ h. (all_whole areas draw).0 ((kind-whole areas draw).0 h),
        λ x. (kind-whole areas draw).1 ((all_whole areas draw).1 x),
      );
    }
    )
  where
    back : as_choice areas (answer_of areas (c areas draw)).areas ≡ c areas draw
    back =
        read_back (kind_of (share (s areas draw) (c areas draw)) (part_areas (s areas draw) (c areas draw)))
        (share (s areas draw) (c areas draw)) areas (c areas draw) (is-allowed areas draw).each
