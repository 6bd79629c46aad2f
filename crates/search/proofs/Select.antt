-- What the selection's reads and loops come to. Assumes nothing.
use Prim.Native.Nat.{ℕ, zero, suc, ◌+◌, ◌-◌, ◌<◌, ◌≤◌}
use mathlib.Core.Path.{◌≡◌, refl, sym, ap, subst, ◌∙◌}
use mathlib.Core.Bool.{Bool, true, false, cond, true≢false}
use mathlib.Core.Logic.{⊎_elim}
use Rattle.std.proofs.Common.{Option, Some, None}
use Rattle.std.proofs.lemmas.List.{get_or_past}
use Rattle.std.proofs.lemmas.List.{get_or-map as get_or-map-in}
use native.Mathlib.Nat.{eq-or-lt_of_le}
use mathlib.Core.List.{List, [], ◌∷◌, ◌++◌, map}
use Rattle.std.specs.List.{filter, range_with_len}
use Rattle.std.proofs.lemmas.List.{map-id}
use Rattle.std.proofs.lemmas.List.FromFn.{filter_of_map_range_with_len_more}
use native.Mathlib.Numerals.{add-one}
use native.Mathlib.Omega.{arith}
use lib.ListN.{length, get_or, length-map, get_or-map}
use borrow.Author.Tests.{ltb-true, lt-ltb, le-ltb}
use Rattle.search.specs.declared.Rank.{Rank}
use Rattle.search.specs.declared.Partial.{Partial}
use Rattle.search.specs.declared.Held.{Held}
use Rattle.search.specs.Search.{whites}
use Rattle.search.specs.Choice.{rank_of, ahead, cap, heft, largest_size, largest_weight}
use Rattle.search.specs.Proposal.{sizes, weights, present, rank_at, rank_held, clear, best_at, tied_to, Small, Limits}

-- ---- entry 0, and entry p + 1 for place p

pub get_or-zero : (x : ℕ) (l : List ℕ) (t : ℕ) → t ≡ 0 → get_or (x ∷ l) t 0 ≡ x
get_or-zero x l zero h = refl
get_or-zero x l (suc j) h = absurd (omega arith)

pub get_or-pred : (x : ℕ) (l : List ℕ) (t : ℕ) → (t ≡ 0 → ⊥) → get_or (x ∷ l) t 0 ≡ get_or l (t - 1) 0
get_or-pred x l zero h = absurd (h refl)
get_or-pred x l (suc j) h = ap (λ (i : ℕ). get_or l i 0) (omega arith)

-- ---- what the code reads

-- past the areas
abbrev pub none : Partial
none = record { size = record { 0 = 0 }; weight = 0 }

pub size-of : (partials : List Partial) (i : ℕ) → get_or (sizes partials) i 0 ≡ (get_or partials i none).size.0
size-of partials i = get_or-map (λ (p : Partial). p.size.0) partials i none

weight-of : (partials : List Partial) (i : ℕ) → get_or (weights partials) i 0 ≡ (get_or partials i none).weight
weight-of partials i = get_or-map (λ (p : Partial). p.weight) partials i none

pub white-of : (table : List Held) (t : ℕ) (h : Held) → t < length table → h ≡ get_or table t h
    → h.white ≡ get_or (whites table) t 0
white-of table t h l e =
    ap (λ (g : Held). g.white) e ∙ sym (get_or-map-in (λ (g : Held). g.white) table t h 0 l)

-- ---- the rank at an entry

-- what an Option made by a test holds
tested : {A : Type 0} {x y : A} (p : Bool) → cond p (Some x) None ≡ Some y → (p ≡ true) × (x ≡ y)
tested true e = (refl, cc)
tested false e = absurd cc

untested : {A : Type 0} (x : A) (p : Bool) → cond p (Some x) None ≡ None → p ≡ false
untested x true e = absurd cc
untested x false e = refl

module _ (ms ws wh : List ℕ) where
  -- an entry past the table holds none
  pub past-none : (t : ℕ) → length wh ≡ length ms + 1 → length wh ≤ t → None ≡ rank_held ms ws wh t
  unfolding present
  past-none t e h = rw (get_or_past wh t 0 h, get_or_past (1 ∷ ms) t 0 (omega arith))

  pub rank-none : (t : ℕ) → get_or (1 ∷ ms) t 0 ≤ get_or wh t 0 → None ≡ rank_held ms ws wh t
  unfolding present
  rank-none t h = rw (le-ltb (get_or wh t 0) (get_or (1 ∷ ms) t 0) h)

  pub rank-some : (t size weight : ℕ) → get_or wh t 0 < get_or (1 ∷ ms) t 0 → cap ms t ≡ size → heft ws t ≡ weight
      → Some (rank_of size (get_or wh t 0) weight) ≡ rank_held ms ws wh t
  unfolding present rank_at
  rank-some t size weight h p q = rw (lt-ltb (get_or wh t 0) (get_or (1 ∷ ms) t 0) h, p, q)

  -- the products across fit
  pub rank-small : (t : ℕ) (r : Rank) → Limits ms ws → Some r ≡ rank_held ms ws wh t → Small r
  unfolding present rank_at rank_of
  rank-small t r l e =
      let h = tested (present ms wh t) (sym e) in
      let below = ltb-true (get_or wh t 0) (get_or (1 ∷ ms) t 0) h.0 in
      let w : r.white ≡ get_or wh t 0 = sym (ap (λ (q : Rank). q.white) h.1) in
      let v : r.weight ≡ heft ws t = sym (ap (λ (q : Rank). q.weight) h.1) in
      record {
        white = omega (arith, least-size t, below, w);
        weight = rw v (least-weight t);
      }
    where
      least-size : (t : ℕ) → get_or (1 ∷ ms) t 0 ≤ largest_size
      least-size zero = omega arith
      least-size (suc i) = l.sizes i

      least-weight : (t : ℕ) → heft ws t ≤ largest_weight
      least-weight zero = omega arith
      least-weight (suc i) = l.weights i

-- ---- the same, as the code reads it

module _ (partials : List Partial) (table : List Held) (t : ℕ) where
  abbrev Is : Option Rank → Type 0
  Is o = o ≡ rank_held (sizes partials) (weights partials) (whites table) t

  pub read-past : length table ≡ length partials + 1 → length table ≤ t → Is None
  read-past e h =
      past-none (sizes partials) (weights partials) (whites table) t
      (omega (arith, length-map table (λ (g : Held). g.white), length-map partials (λ (p : Partial). p.size.0)))
      (omega (arith, length-map table (λ (g : Held). g.white)))

  module _ (w : ℕ) (e : w ≡ get_or (whites table) t 0) where
    pub exact-none : t ≡ 0 → 1 ≤ w → Is None
    exact-none z h =
        rank-none (sizes partials) (weights partials) (whites table) t (omega (arith, get_or-zero 1 (sizes partials) t z))

    pub exact-some : (r : Rank) → t ≡ 0 → w < 1 → r ≡ rank_of 0 w 1 → Is (Some r)
    exact-some r z h q =
        ap (λ (x : Rank). Some x) (q ∙ ap (λ (v : ℕ). rank_of 0 v 1) e)
        ∙ rank-some (sizes partials) (weights partials) (whites table) t 0 1
        (omega (arith, get_or-zero 1 (sizes partials) t z))
        (get_or-zero 0 (sizes partials) t z) (get_or-zero 1 (weights partials) t z)

    -- its area
    abbrev area : Partial
    area = get_or partials (t - 1) none

    before : (x : ℕ) → (t ≡ 0 → ⊥) → get_or (x ∷ sizes partials) t 0 ≡ area.size.0
    before x z = get_or-pred x (sizes partials) t z ∙ size-of partials (t - 1)

    pub area-none : (t ≡ 0 → ⊥) → area.size.0 ≤ w → Is None
    area-none z h = rank-none (sizes partials) (weights partials) (whites table) t (omega (arith, before 1 z))

    pub area-some : (r : Rank) → (t ≡ 0 → ⊥) → w < area.size.0 → r ≡ rank_of area.size.0 w area.weight → Is (Some r)
    area-some r z h q =
        ap (λ (x : Rank). Some x) (q ∙ ap (λ (v : ℕ). rank_of area.size.0 v area.weight) e)
        ∙ rank-some (sizes partials) (weights partials) (whites table) t area.size.0 area.weight
        (omega (arith, before 1 z)) (before 0 z)
        (get_or-pred 1 (weights partials) t z ∙ weight-of partials (t - 1))

-- ---- the loop of `clear`: from the first entry up

module _ (ms ws wh : List ℕ) (r : Rank) where
  -- once an entry ranks ahead, one does
  pub clear-stays : (i n : ℕ) → i ≤ n → clear ms ws wh r i ≡ false → clear ms ws wh r n ≡ false
  unfolding clear
  clear-stays zero n h e = absurd (true≢false e)
  clear-stays (suc i) zero h e = absurd (omega arith)
  clear-stays (suc i) (suc n) h e = ⊎_elim
      (λ q. subst (λ (j : ℕ). clear ms ws wh r j ≡ false) q e)
      (λ q. go (present ms wh n) (ahead (rank_at ms ws wh n) r) (clear-stays (suc i) n (omega arith) e))
      (eq-or-lt_of_le h)
    where
      go : (a b : Bool) → clear ms ws wh r n ≡ false → cond a (cond b false (clear ms ws wh r n)) (clear ms ws wh r n) ≡ false
      go true true q = refl
      go true false q = q
      go false b q = q

  -- an entry that holds no choice, or one that is not ahead
  pub clear-empty : (i : ℕ) → clear ms ws wh r i ≡ true → None ≡ rank_held ms ws wh i → clear ms ws wh r (i + 1) ≡ true
  unfolding clear
  clear-empty i c e = rw (add-one, untested (rank_at ms ws wh i) (present ms wh i) (sym e)) c

  pub clear-past : (i : ℕ) (q : Rank) → clear ms ws wh r i ≡ true → Some q ≡ rank_held ms ws wh i → ahead q r ≡ false
      → clear ms ws wh r (i + 1) ≡ true
  unfolding clear
  clear-past i q c e a =
      let h = tested (present ms wh i) (sym e) in rw (add-one, h.0, h.1, a) c

  pub clear-stop : (i n : ℕ) (q : Rank) → i < n → Some q ≡ rank_held ms ws wh i → ahead q r ≡ true
      → false ≡ clear ms ws wh r n
  unfolding clear
  clear-stop i n q l e a =
      let h = tested (present ms wh i) (sym e) in
      let here : clear ms ws wh r (suc i) ≡ false = rw (h.0, h.1, a) in
      sym (clear-stays (suc i) n (omega arith) here)

-- ---- the best entries

module _ (partials : List Partial) (table : List Held) (t : ℕ) where
  abbrev P : Bool
  P = present (sizes partials) (whites table) t

  abbrev R : Rank
  R = rank_at (sizes partials) (weights partials) (whites table) t

  pub best-held : (r : Rank) → Some r ≡ rank_held (sizes partials) (weights partials) (whites table) t
      → clear (sizes partials) (weights partials) (whites table) r (length partials + 1)
      ≡ best_at (sizes partials) (weights partials) (whites table) t
  unfolding best_at
  best-held r e =
      let h = tested P (sym e) in
      let n : length partials + 1 ≡ suc (length (sizes partials)) =
      omega (arith, length-map partials (λ (p : Partial). p.size.0)) in
      rw (h.0, h.1, n)

  pub best_none : None ≡ rank_held (sizes partials) (weights partials) (whites table) t
      → false ≡ best_at (sizes partials) (weights partials) (whites table) t
  unfolding best_at
  best_none e = rw (untested R P (sym e))

-- ---- the tied entries

-- they are those of 1 up to n that are best
pub tied-filter : (ms ws wh : List ℕ) (n : ℕ)
    → tied_to ms ws wh n ≡ filter (λ t. best_at ms ws wh t) (range_with_len 1 n)
unfolding tied_to
tied-filter ms ws wh zero = refl
tied-filter ms ws wh (suc n) =
    ap (λ (l : List ℕ). l ++ last) (tied-filter ms ws wh n ∙ same n)
    ∙ sym (filter_of_map_range_with_len_more best (λ t. t) 1 n (suc n) (omega arith))
    ∙ sym (same (n + 1))
    ∙ ap (λ (j : ℕ). filter best (range_with_len 1 j)) (add-one n)
  where
    best : ℕ → Bool
    best t = best_at ms ws wh t

    last : List ℕ
    last = cond (best (suc n)) (suc n ∷ []) []

    same : (j : ℕ) → filter best (range_with_len 1 j) ≡ filter best (map (λ t. t) (range_with_len 1 j))
    same j = ap (λ (l : List ℕ). filter best l) (sym (map-id (range_with_len 1 j)))
