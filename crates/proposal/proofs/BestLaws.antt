-- The search's tables come to the definitions: best choices, tied areas, the choice that wins, its kind. For lists of any length.
-- Assumes nothing.
use Prim.Native.Nat.{ℕ, zero, suc, ◌-◌, ◌*◌, ◌%◌, ◌<◌, ◌≤◌}
use mathlib.Core.Path.{◌≡◌, refl, sym, ap, subst, ◌∙◌}
use mathlib.Core.Bool.{Bool, true, false, cond, not}
use mathlib.Core.Logic.{◌↔◌, ⊎_elim}
use mathlib.Core.List.{List, [], ◌∷◌, ◌++◌, map, map-append, Memᴰ}
use native.Mathlib.Nat.{mod-lt}
use native.Mathlib.Omega.{arith}
use lib.Dec.{ltb, leb, eqb}
use lib.ListN.{length, get_or, length-map, get_or-map}
use borrow.Author.Tests.{eq-eqb, ne_eqb}
use Rattle.lists.specs.Sums.{total, any}
use Rattle.lists.specs.Filters.{filter, up_to}
use Rattle.lists.proofs.Tests.{same_test}
use Rattle.lists.proofs.FilterLaws.{mem-filter, filter-mem, any_some, some-any, filter-append, mem-foremost, foremost-mem}
use Rattle.subset.proofs.RuleLaws.{smallest-only}
use Rattle.coverage.specs.declared.Holding.{Holding}
use Rattle.coverage.specs.Blocks.{size}
use Rattle.search.specs.declared.Answer.{Answer}
use Rattle.search.specs.declared.Kind.{Kind}
use Rattle.search.specs.declared.Kind.TheVariants.{Exact, RoundedUp, OnePart}
use Rattle.search.specs.declared.Rank as searched
use Rattle.search.specs.Choice as choice
use Rattle.search.specs.Choice.{Mark, parts, entry, number, cap, heft, Allowed, rank_of, Best}
use Rattle.search.specs.Proposal.{kind_number, table, rank_at, best_at, tied_to, pick, answer_at, propose}
use Rattle.search.proofs.Optimal.{Right, allowed-within, from, of-best_at, to-best_at, best-choice, best-entry, tied-best, at_place}
use Rattle.search.proofs.Greedy.{always-right}
use Rattle.proposal.specs.Choices.{
  total_value,
  choices,
  part_areas,
  share,
  allowed,
  allowed_choices,
  makes_part,
  no_part,
  whole_set,
  set_number,
}
use Rattle.proposal.specs.Best.{is_all_whole, white_space, rank, ahead, best, tied, drawn, chosen}
use Rattle.proposal.specs.Answer.{kind_of}
use Rattle.proposal.specs.Code.{sizes, weights, decode}
use Rattle.proposal.proofs.ChoiceLaws.{
  in-choices,
  choice-length,
  number_same,
  shape,
  entry-none,
  entry-one,
  decoded,
  part-entry,
  none-entry,
}
use Rattle.proposal.proofs.RankLaws.{
  TheArea,
  the-area,
  no-area,
  share-same,
  to-allowed,
  of-allowed,
  ahead-same,
  rank-one,
  share-below,
  opposite,
  matches,
}

-- ---- best choices

module _ (s : List Holding) where
  abbrev AllowedIn : List Mark → Type 0
  AllowedIn c = Allowed (total_value s) (sizes s) c

  abbrev BestIn : List Mark → Type 0
  BestIn c = Best (total_value s) (sizes s) (weights s) c

  abbrev whites : List ℕ
  whites = (table (total_value s) (sizes s)).white

  abbrev best_entry : ℕ → Bool
  best_entry t = best_at (sizes s) (weights s) whites t

  abbrev ties : ℕ → List ℕ
  ties n = tied_to (sizes s) (weights s) whites n

  long : (c : List Mark) → AllowedIn c → length c ≡ length s
  long c a = a.each ∙ length-map s size

  allowed-in : (c : List Mark) → Memᴰ c (allowed_choices s) → AllowedIn c
  unfolding allowed_choices
  allowed-in c m =
      let r = mem-filter (allowed s) (choices (length s)) c m in
      to-allowed s c (choice-length (length s) c r.0) r.1

  in-allowed : (c : List Mark) → AllowedIn c → Memᴰ c (allowed_choices s)
  unfolding allowed_choices
  in-allowed c a =
      filter-mem (allowed s) (choices (length s)) c (in-choices (length s) c (long c a)) (of-allowed s c (long c a) a)

  -- ranks compare alike
  pub compare_same : (d c : List Mark) → AllowedIn d → AllowedIn c
      → ahead (rank s d) (rank s c)
      ≡ choice.ahead (choice.rank (total_value s) (sizes s) (weights s) d) (choice.rank (total_value s) (sizes s) (weights s) c)
  compare_same d c a b = ahead-same (rank s d) (rank s c) _ _ (matches s d (long d a) a) (matches s c (long c b) b)

  abbrev ahead_in : List Mark → List Mark → Bool
  ahead_in d c = ahead (rank s d) (rank s c)

  pub to-best : (c : List Mark) → Memᴰ c (best s) → BestIn c
  unfolding best
  to-best c m =
      let r = mem-foremost ahead_in (allowed_choices s) c m in
      let a = allowed-in c r.0 in
      record { allowed = a; first = λ d b. sym (compare_same d c b a) ∙ r.1 d (in-allowed d b) }

  pub in-best : (c : List Mark) → BestIn c → Memᴰ c (best s)
  unfolding best
  in-best c b =
      foremost-mem ahead_in (allowed_choices s) c (in-allowed c b.allowed)
      (λ d m. compare_same d c (allowed-in d m) b.allowed ∙ b.first d (allowed-in d m))

  -- ---- tied areas

  -- an area is partial in a best choice exactly if its entry is best
  tied-place : (p : ℕ) → p < length s → any (makes_part p) (best s) ≡ best_entry (suc p)
  tied-place p h = same_test (any (makes_part p) (best s)) (best_entry (suc p)) there back
    where
      there : any (makes_part p) (best s) ≡ true → best_entry (suc p) ≡ true
      there q =
          let x = any_some (makes_part p) (best s) q in
          let b = to-best x.0 x.1 in
          let e = (part-entry x.0 b.allowed.one p).0 x.2 in
          subst (λ (t : ℕ). best_entry t ≡ true) e
          (to-best_at (sizes s) (weights s) whites (entry x.0) (best-entry (total_value s) (sizes s) (weights s) x.0 b))

      back : best_entry (suc p) ≡ true → any (makes_part p) (best s) ≡ true
      back q =
          let b = of-best_at (sizes s) (weights s) whites (suc p) q in
          let f = from (total_value s) (sizes s) (suc p) (let n = length-map s size in omega arith) b.0 in
          some-any (makes_part p) (best s) f.choice
          (in-best f.choice (best-choice (total_value s) (sizes s) (weights s) (suc p) f b))
          ((part-entry f.choice f.allowed.one p).1 f.at_entry)

  abbrev place : ℕ → ℕ
  place t = t - 1

  -- the tied areas below n
  tied_below : (n : ℕ) → n ≤ length s → filter (λ p. any (makes_part p) (best s)) (up_to n) ≡ map place (ties n)
  unfolding up_to filter tied_to
  tied_below zero h = refl
  tied_below (suc n) h =
      filter-append (λ p. any (makes_part p) (best s)) (up_to n) (n ∷ [])
      ∙ (λ i. tied_below n (omega arith) i ++ last (any (makes_part n) (best s)) (best_entry (suc n)) (tied-place n (omega arith)) i)
      ∙ sym (map-append place (ties n) (cond (best_entry (suc n)) (suc n ∷ []) []))
    where
      last : (a b : Bool) → a ≡ b → cond a (n ∷ []) [] ≡ map place (cond b (suc n ∷ []) [])
      last a b e = ap (λ x. cond x (n ∷ []) []) e ∙ of b
        where
          of : (b : Bool) → cond b (n ∷ []) [] ≡ map place (cond b (suc n ∷ []) [])
          of true = ap (λ j. j ∷ []) (omega arith)
          of false = refl

  tied-same : tied s ≡ map place (ties (length (sizes s)))
  unfolding tied
  tied-same = tied_below (length s) (omega arith) ∙ ap (λ n. map place (ties n)) (sym (length-map s size))

  -- ---- the draw

  -- the choices left after the draw are the best ones with the entry that is picked
  drawn-same : (ts : List ℕ) (draw : ℕ) → ((t : ℕ) → Memᴰ t ts → 0 < t) → (c : List Mark)
      → Memᴰ c (drawn (map place ts) draw (best s)) ↔ (BestIn c × (entry c ≡ pick ts draw))
  unfolding drawn pick
  drawn-same [] draw p c = (
    λ m. (
        let r = mem-filter no_part (best s) c m in
        let b = to-best c r.0 in
        (b, (none-entry c b.allowed.one).0 r.1)),
    λ x. filter-mem no_part (best s) c (in-best c x.0) ((none-entry c x.0.allowed.one).1 x.1),
  )
  drawn-same (u ∷ us) draw p c = (
    λ m. (
        let r = mem-filter (makes_part q) (best s) c m in
        let b = to-best c r.0 in
        (b, (part-entry c b.allowed.one q).0 r.1 ∙ above)),
    λ x. filter-mem (makes_part q) (best s) c (in-best c x.0) ((part-entry c x.0.allowed.one q).1 (x.1 ∙ sym above)),
  )
    where
      t : ℕ
      t = get_or (u ∷ us) (draw % length (u ∷ us)) 0

      q : ℕ
      q = get_or (map place (u ∷ us)) (draw % length (map place (u ∷ us))) 0

      above : suc q ≡ t
      above =
          let h : 0 < t = p t (at_place (u ∷ us) (draw % length (u ∷ us)) (mod-lt draw (omega arith))) in
          let e : q ≡ t - 1 =
          ap (λ n. get_or (map place (u ∷ us)) (draw % n) 0) (length-map (u ∷ us) place)
          ∙ get_or-map place (u ∷ us) (draw % length (u ∷ us)) 0 in
          omega arith

-- ---- the choice that wins, for an S whose T is no more than the sum of its sizes

module _ (s : List Holding) (draw : ℕ) (fits : total_value s ≤ total (λ m. m) (sizes s)) where
  -- what the search answers
  abbrev pub found : Answer
  found = propose (total_value s) (sizes s) (weights s) draw

  right : Right (total_value s) (sizes s) (weights s) found
  right = always-right (total_value s) (sizes s) (weights s) draw fits

  picked : found.entry ≡ pick (ties s (length (sizes s))) draw
  unfolding propose answer_at
  picked = refl

  candidates : (c : List Mark) → Memᴰ c (drawn (tied s) draw (best s)) ↔ (BestIn s c × (entry c ≡ found.entry))
  candidates c =
      let r = drawn-same s (ties s (length (sizes s))) draw above c in (
        λ m. (let x = r.0 (subst After (tied-same s) m) in (x.0, x.1 ∙ sym picked)),
        λ x. subst After (sym (tied-same s)) (r.1 (x.0, x.1 ∙ picked)),
      )
    where
      above : (t : ℕ) → Memᴰ t (ties s (length (sizes s))) → 0 < t
      above t m = (tied-best (sizes s) (weights s) (whites s) (length (sizes s)) t m).0

      After : List ℕ → Type 0
      After l = Memᴰ c (drawn l draw (best s))

  chosen-right : chosen s draw ≡ right.choice
  unfolding chosen
  chosen-right = smallest-only whole_set [] (drawn (tied s) draw (best s)) right.choice mem least same
    where
      In : List Mark → Type 0
      In c = Memᴰ c (drawn (tied s) draw (best s))

      mem : In right.choice
      mem = (candidates right.choice).1 (right.best, right.its-entry)

      least : (d : List Mark) → In d → set_number right.choice ≤ set_number d
      least d m =
          let x = (candidates d).0 m in
          omega (arith, number_same right.choice, number_same d, right.its-number, right.smallest d x.0 x.1)

      -- choices with one entry and one set number are one
      same : (d c : List Mark) → In d → In c → set_number d ≡ set_number c → d ≡ c
      same d c m n e =
          let x = (candidates d).0 m in
          let y = (candidates c).0 n in
          sym (decoded d x.0.allowed.one)
          ∙ (λ i. decode ((long s d x.0.allowed ∙ sym (long s c y.0.allowed)) i) ((x.1 ∙ sym y.1) i) (e i))
          ∙ decoded c y.0.allowed.one

  pub chosen-best : BestIn s (chosen s draw)
  chosen-best = subst (λ (c : List Mark). BestIn s c) (sym chosen-right) right.best

  -- it is left after the draw
  pub chosen-drawn : Memᴰ (chosen s draw) (drawn (tied s) draw (best s))
  chosen-drawn = (candidates (chosen s draw)).1 (chosen-best, ap (λ c. entry c) chosen-right ∙ right.its-entry)

  pub chosen-length : length (chosen s draw) ≡ length s
  chosen-length = long s (chosen s draw) chosen-best.allowed

  -- among best choices with its partial area, or among exact ones, its set number is smallest
  pub chosen-least : (d : List Mark) → BestIn s d → entry d ≡ entry (chosen s draw) → set_number (chosen s draw) ≤ set_number d
  chosen-least d b e =
      let h = right.smallest d b (e ∙ ap (λ c. entry c) chosen-right ∙ right.its-entry) in
      omega (arith, number_same (chosen s draw), number_same d, right.its-number, ap (λ c. number c) chosen-right)

  entry_found : entry (chosen s draw) ≡ found.entry
  entry_found = ap (λ c. entry c) chosen-right ∙ right.its-entry

  -- the choice by the search's entry and set number
  pub chosen-decoded : chosen s draw ≡ decode (length s) found.entry found.number
  chosen-decoded =
      sym (decoded (chosen s draw) chosen-best.allowed.one)
      ∙ (λ i. decode (chosen-length i) (entry_found i)
      ((sym (number_same (chosen s draw)) ∙ ap (λ c. number c) chosen-right ∙ right.its-number) i))

  pub tied-count : length (tied s) ≡ found.tied
  unfolding propose answer_at
  tied-count = ap length (tied-same s) ∙ length-map (ties s (length (sizes s))) (place s)

  -- ---- its white space, share and kind

  white-found : choice.white (total_value s) (sizes s) (chosen s draw) ≡ found.white.0
  white-found = ap (λ c. choice.white (total_value s) (sizes s) c) chosen-right ∙ right.its-white

  cap-found : cap (sizes s) (entry (chosen s draw)) ≡ cap (sizes s) found.entry
  cap-found = ap (λ e. cap (sizes s) e) entry_found

  pub white-same : white_space (share s (chosen s draw)) (part_areas s (chosen s draw)) ≡ found.white.0
  unfolding rank rank_of
  white-same = sym (matches s (chosen s draw) chosen-length chosen-best.allowed).white ∙ white-found

  pub entry-inside : found.entry ≤ length (sizes s)
  entry-inside = omega (arith, allowed-within (total_value s) (sizes s) (chosen s draw) chosen-best.allowed, entry_found)

  pub white-inside : found.white.0 ≤ cap (sizes s) found.entry
  white-inside = omega (arith, white-found, cap-found)

  pub share-found : share s (chosen s draw) ≡ cap (sizes s) found.entry - found.white.0
  share-found =
      let w = white-found in
      let z = share-same s (chosen s draw) chosen-length in
      ⊎_elim
      (λ u.
      let k : cap (sizes s) (entry (chosen s draw)) ≡ 0 = ap (λ e. cap (sizes s) e) u.0 in
      omega (arith, cap-found))
      (λ u. omega (arith, cap-found))
      chosen-best.allowed.proper

  abbrev pub found_rank : searched.Rank
  found_rank = rank_of (cap (sizes s) found.entry) found.white.0 (heft (weights s) found.entry)

  -- the kind of an answer by its entry and whether it is far from all-whole
  abbrev kind_by : (exact far : Bool) → Kind
  kind_by exact far = cond exact Exact (cond far OnePart RoundedUp)

  kind-found : found.kind ≡ kind_by (eqb found.entry 0) found_rank.far
  unfolding propose answer_at rank_at
  kind-found = refl

  pub kind-same : kind_of (share s (chosen s draw)) (part_areas s (chosen s draw)) ≡ kind_number found.kind
  unfolding kind_of is_all_whole rank_of
  kind-same =
      ⊎_elim none (λ o. the_one o (the-area s c chosen-length o)) (shape c chosen-best.allowed.one) ∙ ap kind_number (sym kind-found)
    where
      c : List Mark
      c = chosen s draw

      Is : ℕ → Type 0
      Is k = k ≡ kind_number (kind_by (eqb found.entry 0) found_rank.far)

      none : parts c ≡ 0 → Is (kind_of (share s c) (part_areas s c))
      none o =
          let z = eq-eqb found.entry 0 (sym entry_found ∙ entry-none c o) in
          ap (λ l. kind_of (share s c) l) (no-area s c chosen-length o) ∙ sym (ap (λ b. kind_number (kind_by b found_rank.far)) z)

      whole-or-not : (b : Bool) → ◌≡◌ {A = ℕ} (cond b 2 3) (kind_number (kind_by false (not b)))
      whole-or-not true = refl
      whole-or-not false = refl

      the_one : parts c ≡ 1 → TheArea s c → Is (kind_of (share s c) (part_areas s c))
      the_one o t =
          let z = ne_eqb found.entry 0 (λ q. omega (arith, entry_found, entry-one c o)) in
          let b = share-below s c chosen-length chosen-best.allowed o t in
          let back : size t.area - (size t.area - share s c) ≡ share s c = omega arith in
          let r : found_rank ≡ rank_of (size t.area) (size t.area - share s c) t.area.weight =
          sym (λ i. rank_of (cap (sizes s) (entry_found i)) (white-found i) (heft (weights s) (entry_found i)))
          ∙ rank-one s c chosen-length chosen-best.allowed o t in
          let f : found_rank.far ≡ not (leb (9 * size t.area) (10 * share s c)) =
          ap (λ (x : searched.Rank). x.far) r
          ∙ ap (λ x. ltb (10 * x) (9 * size t.area)) back
          ∙ opposite (9 * size t.area) (10 * share s c) in
          ap (λ l. kind_of (share s c) l) t.only ∙ whole-or-not (leb (9 * size t.area) (10 * share s c))
          ∙ sym (λ i. kind_number (kind_by (z i) (f i)))
