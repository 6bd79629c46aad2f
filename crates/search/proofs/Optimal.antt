-- The answer of the search is what document 01 asks: an allowed choice that no allowed choice ranks ahead of, of smallest set
-- number with its partial area. For lists of any length. Assumes nothing.
use Prim.Native.Nat.{ℕ, zero, suc, ◌+◌, ◌-◌, ◌%◌, ◌<◌, ◌≤◌}
use mathlib.Core.Path.{◌≡◌, refl, sym, ap, subst, ◌∙◌}
use mathlib.Core.Bool.{Bool, true, false, cond, true≢false, false≢true}
use mathlib.Core.Logic.{◌⊎◌, inl, inr, ⊎_elim}
use mathlib.Core.List.Memᴰ
use mathlib.Core.List.{List, [], ◌∷◌, Memᴰ}
use native.Mathlib.Nat.{eq-or-lt_of_le, mod-lt}
use native.Mathlib.Omega.{arith}
use lib.Dec.{ltb}
use lib.ListN.{length, get_or, length-replicate}
use borrow.Author.Tests.{ltb-true, ltb-false, lt-ltb}
use Rattle.search.specs.Search.{Pos, searched, positions}
use Rattle.search.specs.declared.Held.{Held}
use Rattle.search.specs.declared.Rank.{Rank}
use Rattle.search.specs.declared.Answer.{Answer}
use Rattle.search.specs.Choice.{Mark, out, whole, part, entry_from, entry, number, share, cap, heft, white, Proper, Allowed}
use Rattle.search.specs.Choice.{rank_of, rank, ahead, Best}
use Rattle.search.specs.Proposal.{start, table, present, rank_at, clear, best_at, tied_to, pick, answer_at, propose}
use Rattle.search.proofs.Choices.{outcome, visited, chosen}
use Rattle.search.proofs.Entries.{held, Lex, Has, Cand, value, Found, found}
use Rattle.search.proofs.Ranks.{behind-trans, behind-total, more-white, less-white}

-- ---- what an entry holds

-- an entry is a place of the tables
pub entry-within : (c : List Mark) (at e : ℕ) → e ≤ at → entry_from at e c ≤ at + length c
unfolding entry_from
entry-within [] at e h = omega arith
entry-within (out ∷ c) at e h = omega (arith, entry-within c (at + 1) e (omega arith))
entry-within (whole ∷ c) at e h = omega (arith, entry-within c (at + 1) e (omega arith))
entry-within (part ∷ c) at e h = omega (arith, entry-within c (at + 1) (at + 1) (omega arith))

module _ (T : ℕ) (ms : List ℕ) where
  pub allowed-within : (c : List Mark) → Allowed T ms c → entry c ≤ length ms
  allowed-within c a = omega (arith, entry-within c 0 0 (omega arith), a.each)

  start_has : (t : ℕ) → t ≤ length ms → Has (start ms) t
  unfolding start
  start_has t h = (omega arith, omega (arith, length-replicate {A = ℕ} (suc (length ms)) 0))

  entry_found : (t : ℕ) → t ≤ length ms → Found ms (start ms) (positions ms 0 T 0 0 1) t (held (table T ms) t)
  unfolding table searched
  entry_found t h = found ms (start ms) (positions ms 0 T 0 0 1) t (start_has t h)

  -- an allowed choice is not below its entry
  above : (c : List Mark) → Allowed T ms c → Lex (held (table T ms) (entry c)) (record { white = white T ms c; set = number c })
  above c a =
      (entry_found (entry c) (allowed-within c a)).least (outcome ms 0 T 0 0 1 c)
      (visited ms c 0 T 0 0 1 a.each (inl (refl, a.one)) a.under) (refl, a.proper) refl

  -- its white space is less than its entry had before the search
  white-less : (e left : ℕ) → Proper ms e left → cap ms e - left < get_or (1 ∷ ms) e 0
  white-less zero left p = omega arith
  white-less (suc j) left (inl p) = absurd (omega arith)
  white-less (suc j) left (inr p) = omega arith

  pub holding : (c : List Mark) → Allowed T ms c → present ms (table T ms).white (entry c) ≡ true
  unfolding present
  holding c a =
      let w = white-less (entry c) (share T ms c) a.proper in
      lt-ltb (get_or (table T ms).white (entry c) 0) (get_or (1 ∷ ms) (entry c) 0)
      (⊎_elim (λ p. omega (arith, w)) (λ p. omega (arith, w)) (above c a))

  -- an entry that holds a choice holds that of an allowed one
  pub record From (t : ℕ) : Type 0 where
    pub choice : List Mark
    pub allowed : Allowed T ms choice
    pub at_entry : entry choice ≡ t
    pub same : held (table T ms) t ≡ record { white = white T ms choice; set = number choice }

  pub from : (t : ℕ) → t ≤ length ms → present ms (table T ms).white t ≡ true → From t
  unfolding present start
  from t h p = ⊎_elim
      (λ e. absurd (omega (
        arith,
        ltb-true (get_or (table T ms).white t 0) (get_or (1 ∷ ms) t 0) p,
        ap (λ (x : Held). x.white) e,
      )))
      (λ x. made x)
      (entry_found t h).source
    where
      made : ((p : Pos) × Memᴰ p (positions ms 0 T 0 0 1) × Cand ms p × (p.part ≡ t) × (held (table T ms) t ≡ value ms p))
          → From t
      made x = let q = chosen ms 0 T 0 0 1 x.0 x.2.0 x.1 in record {
        choice = q.choice;
        allowed = record {
          each = q.each;
          one = ⊎_elim (λ u. u.1) (λ u. omega arith) q.single;
          under = q.under;
          proper = subst (λ (p : Pos). Proper ms p.part p.left) q.same x.2.1;
        };
        at_entry = sym (ap (λ (p : Pos). p.part) q.same) ∙ x.3;
        same = x.4 ∙ ap (λ (p : Pos). value ms p) q.same;
      }

-- ---- the best entries

-- it holds a choice, and no entry that holds one ranks ahead of it
abbrev pub BestEntry : List ℕ → List ℕ → List ℕ → ℕ → Type 0
BestEntry ms ws k t =
    (present ms k t ≡ true)
    × ((i : ℕ) → i ≤ length ms → present ms k i ≡ true → ahead (rank_at ms ws k i) (rank_at ms ws k t) ≡ false)

module _ (ms ws k : List ℕ) where
  -- a test over the entries below n is a fact about each
  clear-each : (r : Rank) (n : ℕ) → clear ms ws k r n ≡ true
      → (i : ℕ) → i < n → present ms k i ≡ true → ahead (rank_at ms ws k i) r ≡ false
  unfolding clear
  clear-each r zero h i lt p = absurd (omega arith)
  clear-each r (suc n) h i lt p =
      go (λ c l. clear-each r n c i l p) (present ms k n) (ahead (rank_at ms ws k n) r) refl refl h (eq-or-lt_of_le lt)
    where
      go : (clear ms ws k r n ≡ true → i < n → ahead (rank_at ms ws k i) r ≡ false)
          → (a b : Bool) → present ms k n ≡ a → ahead (rank_at ms ws k n) r ≡ b
          → cond a (cond b false (clear ms ws k r n)) (clear ms ws k r n) ≡ true
          → (suc i ≡ suc n) ⊎ (suc i < suc n) → ahead (rank_at ms ws k i) r ≡ false
      go below true true e₁ e₂ c x = absurd (false≢true c)
      go below true false e₁ e₂ c (inl x) = subst (λ (j : ℕ). ahead (rank_at ms ws k j) r ≡ false) (omega arith) e₂
      go below true false e₁ e₂ c (inr x) = below c (omega arith)
      go below false b e₁ e₂ c (inl x) =
          absurd (false≢true (sym e₁ ∙ subst (λ (j : ℕ). present ms k j ≡ true) (omega arith) p))
      go below false b e₁ e₂ c (inr x) = below c (omega arith)

  each-clear : (r : Rank) (n : ℕ) → ((i : ℕ) → i < n → present ms k i ≡ true → ahead (rank_at ms ws k i) r ≡ false)
      → clear ms ws k r n ≡ true
  unfolding clear
  each-clear r zero h = refl
  each-clear r (suc n) h =
      go (each-clear r n (λ i l p. h i (omega arith) p)) (present ms k n) (ahead (rank_at ms ws k n) r) refl refl
    where
      go : clear ms ws k r n ≡ true → (a b : Bool) → present ms k n ≡ a → ahead (rank_at ms ws k n) r ≡ b
          → cond a (cond b false (clear ms ws k r n)) (clear ms ws k r n) ≡ true
      go below true true e₁ e₂ = absurd (true≢false (sym e₂ ∙ h n (omega arith) e₁))
      go below true false e₁ e₂ = below
      go below false b e₁ e₂ = below

pub of-best_at : (ms ws : List ℕ) (k : List ℕ) (t : ℕ) → best_at ms ws k t ≡ true → BestEntry ms ws k t
unfolding best_at
of-best_at ms ws k t h = go (present ms k t) refl h
  where
    go : (a : Bool) → present ms k t ≡ a → cond a (clear ms ws k (rank_at ms ws k t) (suc (length ms))) false ≡ true
        → BestEntry ms ws k t
    go true e c = (e, λ i l p. clear-each ms ws k (rank_at ms ws k t) (suc (length ms)) c i (omega arith) p)
    go false e c = absurd (false≢true c)

pub to-best_at : (ms ws : List ℕ) (k : List ℕ) (t : ℕ) → BestEntry ms ws k t → best_at ms ws k t ≡ true
unfolding best_at
to-best_at ms ws k t h =
    rw h.0 (each-clear ms ws k (rank_at ms ws k t) (suc (length ms)) (λ i l p. h.1 i (omega arith) p))

-- of the entries below n that hold a choice, if there are any, one is not behind any
module _ (ms ws k : List ℕ) where
  abbrev R : ℕ → Rank
  R i = rank_at ms ws k i

  -- no entry below n is ahead of the one at t
  abbrev Leads : ℕ → ℕ → Type 0
  Leads n t = (i : ℕ) → i < n → present ms k i ≡ true → ahead (R i) (R t) ≡ false

  abbrev None : ℕ → Type 0
  None n = (i : ℕ) → i < n → present ms k i ≡ true → ⊥

  abbrev Leader : ℕ → Type 0
  Leader n = (t : ℕ) × (t < n) × (present ms k t ≡ true) × Leads n t

  level : (r : Rank) → ahead r r ≡ false
  level r = ⊎_elim (λ h. h) (λ h. h) (behind-total r r)

  split : {P : ℕ → Type 0} (n : ℕ) → ((i : ℕ) → i < n → P i) → P n → (i : ℕ) → i < suc n → P i
  split {P} n f q i l = ⊎_elim (λ e. subst (λ (j : ℕ). P j) (omega arith) q) (λ m. f i (omega arith)) (eq-or-lt_of_le l)

  -- t leads the entries up to n if it leads those below n, and n is not ahead of it
  leads : (n t : ℕ) → Leads n t → (present ms k n ≡ true → ahead (R n) (R t) ≡ false) → Leads (suc n) t
  leads n t f q = split {P = λ i. present ms k i ≡ true → ahead (R i) (R t) ≡ false} n f q

  pub least-below : (n : ℕ) → None n ⊎ Leader n
  least-below zero = inl (λ i l p. omega arith)
  least-below (suc n) = go (present ms k n) refl (least-below n)
    where
      go : (a : Bool) → present ms k n ≡ a → None n ⊎ Leader n → None (suc n) ⊎ Leader (suc n)
      go false e (inl none) = inl (split {P = λ i. present ms k i ≡ true → ⊥} n none (λ p. true≢false (sym p ∙ e)))
      go false e (inr x) =
          inr (x.0, omega arith, x.2, leads n x.0 x.3 (λ p. absurd (true≢false (sym p ∙ e))))
      go true e (inl none) = inr (n, omega arith, e, leads n n (λ i l p. absurd (none i l p)) (λ p. level (R n)))
      go true e (inr x) = ⊎_elim
          (λ h. inr (x.0, omega arith, x.2, leads n x.0 x.3 (λ p. h)))
          (λ h. inr (
            n,
            omega arith,
            e,
            leads n n (λ i l p. behind-trans (R i) (R x.0) (R n) (x.3 i l p) h) (λ p. level (R n)),
          ))
          (behind-total (R n) (R x.0))

-- ---- the tied areas

-- a tied area is a best entry above 0, and the reverse
pub tied-best : (ms ws : List ℕ) (k : List ℕ) (n t : ℕ) → Memᴰ t (tied_to ms ws k n)
    → (0 < t) × (t ≤ n) × (best_at ms ws k t ≡ true)
unfolding tied_to
tied-best ms ws k zero t m = absurd (Memᴰ.not-nil m)
tied-best ms ws k (suc n) t m = ⊎_elim
    (λ a. let r = tied-best ms ws k n t a in (r.0, omega (arith, r.1), r.2))
    (λ b. last (best_at ms ws k (suc n)) refl b)
    (Memᴰ.append_cases (tied_to ms ws k n) m)
  where
    last : (a : Bool) → best_at ms ws k (suc n) ≡ a → Memᴰ t (cond a (suc n ∷ []) [])
        → (0 < t) × (t ≤ suc n) × (best_at ms ws k t ≡ true)
    last true e b =
        let q : t ≡ suc n = Memᴰ.eq_of_singleton b in
        (omega arith, omega arith, subst (λ (j : ℕ). best_at ms ws k j ≡ true) (sym q) e)
    last false e b = absurd (Memᴰ.not-nil b)

pub best-tied : (ms ws : List ℕ) (k : List ℕ) (n t : ℕ) → 0 < t → t ≤ n → best_at ms ws k t ≡ true
    → Memᴰ t (tied_to ms ws k n)
unfolding tied_to
best-tied ms ws k zero t p l h = absurd (omega arith)
best-tied ms ws k (suc n) t p l h = ⊎_elim
    (λ e. Memᴰ.append_right (tied_to ms ws k n)
    (last (best_at ms ws k (suc n)) (subst (λ (j : ℕ). best_at ms ws k j ≡ true) e h) e))
    (λ m. Memᴰ.append_left _ (best-tied ms ws k n t p (omega arith) h))
    (eq-or-lt_of_le l)
  where
    last : (a : Bool) → a ≡ true → t ≡ suc n → Memᴰ t (cond a (suc n ∷ []) [])
    last true e q = Memᴰ.head q
    last false e q = absurd (false≢true e)

-- what is at a place of a list is in it
pub at_place : (l : List ℕ) (i : ℕ) → i < length l → Memᴰ (get_or l i 0) l
at_place [] i h = absurd (omega arith)
at_place (x ∷ l) zero h = Memᴰ.head refl
at_place (x ∷ l) (suc i) h = Memᴰ.tail (at_place l i (omega arith))

-- ---- best entries and best-ranked choices

module _ (T : ℕ) (ms ws : List ℕ) where
  abbrev whites : List ℕ
  whites = (table T ms).white

  -- the choice that an entry holds has the entry's rank
  same_rank : (t : ℕ) (f : From T ms t) → rank T ms ws f.choice ≡ rank_at ms ws (table T ms).white t
  unfolding rank_at
  same_rank t f = λ i. rank_of (cap ms (f.at_entry i)) (sym f.same i).white (heft ws (f.at_entry i))

  -- no allowed choice ranks ahead of its entry
  no-better : (c : List Mark) → Allowed T ms c → ahead (rank T ms ws c) (rank_at ms ws (table T ms).white (entry c)) ≡ false
  unfolding rank_at
  no-better c a =
      more-white (cap ms (entry c)) (get_or whites (entry c) 0) (white T ms c) (heft ws (entry c))
      (⊎_elim (λ p. omega arith) (λ p. omega arith) (above T ms c a))

  -- the choice of a best entry is best
  pub best-choice : (t : ℕ) (f : From T ms t) → BestEntry ms ws (table T ms).white t → Best T ms ws f.choice
  best-choice t f b = record {
    allowed = f.allowed;
    first = λ d a. rw (same_rank t f)
        (behind-trans (rank T ms ws d) (rank_at ms ws whites (entry d)) (rank_at ms ws whites t)
        (no-better d a) (b.1 (entry d) (allowed-within T ms d a) (holding T ms d a)));
  }

  -- the entry of a best choice is best
  pub best-entry : (c : List Mark) → Best T ms ws c → BestEntry ms ws (table T ms).white (entry c)
  best-entry c b = (
    holding T ms c b.allowed,
    λ i l p. let f = from T ms i l p in
        behind-trans (rank_at ms ws whites i) (rank T ms ws c) (rank_at ms ws whites (entry c))
        (rw (same_rank i f) at (b.first f.choice f.allowed)) (no-better c b.allowed),
  )

  -- and holds a set number that is no greater
  best-least : (c : List Mark) → Best T ms ws c → get_or (table T ms).least (entry c) 0 ≤ number c
  unfolding rank_at
  best-least c b = ⊎_elim
      (λ p. absurd (less-white (cap ms (entry c)) (get_or whites (entry c) 0) (white T ms c) (heft ws (entry c)) p level-with))
      (λ p. p.1)
      (above T ms c b.allowed)
    where
      f : From T ms (entry c)
      f = from T ms (entry c) (allowed-within T ms c b.allowed) (holding T ms c b.allowed)

      level-with : ahead (rank_at ms ws (table T ms).white (entry c)) (rank T ms ws c) ≡ false
      level-with = rw (same_rank (entry c) f) at (b.first f.choice f.allowed)

-- ---- the answer

-- what document 01 asks of an answer: a best-ranked choice, of smallest set number with its partial area
pub record Right (T : ℕ) (ms ws : List ℕ) (r : Answer) : Type 0 where
  pub choice : List Mark
  pub best : Best T ms ws choice
  pub its-entry : entry choice ≡ r.entry
  pub its-number : number choice ≡ r.number
  pub its-white : white T ms choice ≡ r.white.0
  pub smallest : (d : List Mark) → Best T ms ws d → entry d ≡ r.entry → r.number ≤ number d

module _ (T : ℕ) (ms ws : List ℕ) (c₀ : List Mark) (a₀ : Allowed T ms c₀) where
  -- the entry that is picked is best
  pub picked : (ts : List ℕ) (draw : ℕ) → tied_to ms ws (table T ms).white (length ms) ≡ ts
      → (pick ts draw ≤ length ms) × BestEntry ms ws (table T ms).white (pick ts draw)
  unfolding pick
  picked [] draw e = ⊎_elim
      (λ none. absurd (none (entry c₀) (omega (arith, allowed-within T ms c₀ a₀)) (holding T ms c₀ a₀)))
      (λ x. let b = leader x in
      (omega arith, subst (λ (j : ℕ). BestEntry ms ws (table T ms).white j) (zero_of x.0 x.1 b (ltb 0 x.0) refl) b))
      (least-below ms ws (table T ms).white (suc (length ms)))
    where
      k : List ℕ
      k = (table T ms).white

      leader : (x : Leader ms ws k (suc (length ms))) → BestEntry ms ws k x.0
      leader x = (x.2, λ i l p. x.3 i (omega arith) p)

      zero_of : (t : ℕ) → t < suc (length ms) → BestEntry ms ws k t → (b : Bool) → ltb 0 t ≡ b → t ≡ 0
      zero_of t l h true p =
          absurd (Memᴰ.not-nil (subst (λ (q : List ℕ). Memᴰ t q) e
          (best-tied ms ws k (length ms) t (ltb-true 0 t p) (omega arith) (to-best_at ms ws k t h))))
      zero_of t l h false p = omega (arith, ltb-false 0 t p)
  picked (u ∷ us) draw e =
      let place = at_place (u ∷ us) (draw % length (u ∷ us)) (mod-lt draw (omega arith)) in
      let m =
      tied-best ms ws (table T ms).white (length ms) _
      (subst (λ (q : List ℕ). Memᴰ (get_or (u ∷ us) (draw % length (u ∷ us)) 0) q) (sym e) place) in
      (m.1, of-best_at ms ws (table T ms).white _ m.2)

  pub propose-right : (draw : ℕ) → Right T ms ws (propose T ms ws draw)
  unfolding propose answer_at
  propose-right draw = go (picked (tied_to ms ws (table T ms).white (length ms)) draw refl)
    where
      t : ℕ
      t = pick (tied_to ms ws (table T ms).white (length ms)) draw

      go : (t ≤ length ms) × BestEntry ms ws (table T ms).white t → Right T ms ws (propose T ms ws draw)
      go h =
          let f = from T ms t h.0 h.1.0 in
          let b = best-choice T ms ws t f h.1 in
          record {
            choice = f.choice;
            best = b;
            its-entry = f.at_entry;
            its-number = sym (ap (λ (x : Held). x.set) f.same);
            its-white = sym (ap (λ (x : Held). x.white) f.same);
            smallest = λ d q e. subst (λ (j : ℕ). get_or (table T ms).least j 0 ≤ number d) e (best-least T ms ws d q);
          }
