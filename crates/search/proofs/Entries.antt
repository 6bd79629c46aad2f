-- What an entry of the tables holds after the search: the least of the allowed choices that belong to it. Assumes nothing.
use Prim.Native.Nat.{ℕ, zero, suc, ◌-◌, ◌<◌, ◌≤◌}
use mathlib.Core.Path.{◌≡◌, refl, sym, ap, subst, ◌∙◌}
use mathlib.Core.Bool.{Bool, true, false, cond}
use mathlib.Core.Logic.{◌⊎◌, inl, inr, ⊎_elim}
use mathlib.Core.List.Memᴰ
use mathlib.Core.List.{List, [], ◌∷◌, Memᴰ}
use native.Mathlib.Omega.{arith}
use native.Mathlib.Decide.{ℕ_discrete}
use lib.Dec.{ltb, eqb}
use lib.ListN.{length, get_or, set, length-set}
use lib.Seq.{get_or-set_same, get_or-set_other}
use borrow.Author.Tests.{ltb-true, ltb-false, eqb-true, eqb-false, ne_eqb}
use Rattle.search.specs.Search.{Kept, Pos, as_kept, keep, note, note_at, note_all}
use Rattle.search.specs.declared.Held.{Held}
use Rattle.search.specs.Choice.{cap, Proper}

-- what an entry holds
abbrev pub held : Kept → ℕ → Held
held k t = record { white = get_or k.white t 0; set = get_or k.least t 0 }

-- the tables have an entry t
abbrev pub Has : Kept → ℕ → Type 0
Has k t = (t < length k.white) × (t < length k.least)

-- less white space, or as much with a set number that is no greater
abbrev pub Lex : Held → Held → Type 0
Lex a b = (a.white < b.white) ⊎ ((a.white ≡ b.white) × (a.set ≤ b.set))

lex-refl : (a : Held) → Lex a a
lex-refl a = inr (refl, omega arith)

lex-trans : (a b c : Held) → Lex a b → Lex b c → Lex a c
lex-trans a b c (inl p) (inl q) = inl (omega arith)
lex-trans a b c (inl p) (inr q) = inl (omega arith)
lex-trans a b c (inr p) (inl q) = inl (omega arith)
lex-trans a b c (inr p) (inr q) = inr (omega arith, omega arith)

-- ---- keeping one choice

-- what keeping x makes of its entry
pub record Least (old new x : Held) : Type 0 where
  pub old-or-x : (new ≡ old) ⊎ (new ≡ x)
  pub below_old : Lex new old
  pub below-x : Lex new x

module _ (f s e : ℕ) (k : Kept) where
  -- `keep` by its three tests: less white space, as much, a smaller set number
  abbrev kept : Bool → Bool → Bool → Kept
  kept a b c =
      cond a (as_kept (set k.white e f) (set k.least e s)) (cond b (cond c (as_kept k.white (set k.least e s)) k) k)

  keep-has : (t : ℕ) → Has k t → Has (keep f s e k) t
  unfolding keep
  keep-has t h = go (ltb f (get_or k.white e 0)) (eqb f (get_or k.white e 0)) (ltb s (get_or k.least e 0))
    where
      go : (a b c : Bool) → Has (kept a b c) t
      go true b c = (simp length-set h.0, simp length-set h.1)
      go false true true = (h.0, simp length-set h.1)
      go false true false = h
      go false false c = h

  keep-other : (t : ℕ) → (t ≡ e → ⊥) → held (keep f s e k) t ≡ held k t
  unfolding keep
  keep-other t h = go (ltb f (get_or k.white e 0)) (eqb f (get_or k.white e 0)) (ltb s (get_or k.least e 0))
    where
      go : (a b c : Bool) → held (kept a b c) t ≡ held k t
      go true b c = λ i. record {
        white = get_or-set_other k.white e t f 0 h i;
        set = get_or-set_other k.least e t s 0 h i;
      }
      go false true true = λ i. record {
        white = get_or k.white t 0;
        set = get_or-set_other k.least e t s 0 h i;
      }
      go false true false = refl
      go false false c = refl

  keep_same : Has k e → Least (held k e) (held (keep f s e k) e) (record { white = f; set = s })
  unfolding keep
  keep_same h =
      go (ltb f (get_or k.white e 0)) (eqb f (get_or k.white e 0)) (ltb s (get_or k.least e 0)) refl refl refl
    where
      x : Held
      x = record { white = f; set = s }

      more : get_or k.white e 0 ≤ f → (f ≡ get_or k.white e 0 → ⊥) → get_or k.white e 0 < f
      more a b = omega arith

      w : get_or (set k.white e f) e 0 ≡ f
      w = get_or-set_same k.white e f 0 h.0

      l : get_or (set k.least e s) e 0 ≡ s
      l = get_or-set_same k.least e s 0 h.1

      go : (a b c : Bool) → ltb f (get_or k.white e 0) ≡ a → eqb f (get_or k.white e 0) ≡ b → ltb s (get_or k.least e 0) ≡ c
          → Least (held k e) (held (kept a b c) e) x
      go true b c p q r = record {
        old-or-x = inr (λ i. record { white = w i; set = l i });
        below_old = inl (omega (arith, w, ltb-true f (get_or k.white e 0) p));
        below-x = inr (w, omega (arith, l));
      }
      go false true true p q r =
          let v : get_or k.white e 0 ≡ f = sym (eqb-true f (get_or k.white e 0) q) in
          record {
            old-or-x = inr (λ i. record { white = v i; set = l i });
            below_old = inr (refl, omega (arith, l, ltb-true s (get_or k.least e 0) r));
            below-x = inr (v, omega (arith, l));
          }
      go false true false p q r = record {
        old-or-x = inl refl;
        below_old = lex-refl (held k e);
        below-x = inr (sym (eqb-true f (get_or k.white e 0) q), ltb-false s (get_or k.least e 0) r);
      }
      go false false c p q r = record {
        old-or-x = inl refl;
        below_old = lex-refl (held k e);
        below-x = inl (more (ltb-false f (get_or k.white e 0) p) (eqb-false f (get_or k.white e 0) q));
      }

-- ---- noting one position

-- a complete choice is kept exactly if it is allowed
abbrev Kept-if : List ℕ → ℕ → ℕ → ℕ → Kept → Kept → Type 0
Kept-if sizes left e s k k' =
    (Proper sizes e left × (k' ≡ keep (cap sizes e - left) s e k)) ⊎ ((Proper sizes e left → ⊥) × (k' ≡ k))

note-cases : (sizes : List ℕ) (left e s : ℕ) (k : Kept) → Kept-if sizes left e s k (note sizes left e s k)
unfolding note
note-cases sizes left zero s k = go (eqb left 0) refl
  where
    go : (a : Bool) → eqb left 0 ≡ a → Kept-if sizes left zero s k (cond a (keep 0 s 0 k) k)
    go true p = inl (inl (refl, eqb-true left 0 p), ap (λ (f : ℕ). keep f s 0 k) (omega arith))
    go false p = inr (⊎_elim (λ u. eqb-false left 0 p u.1) (λ u. omega arith), refl)
note-cases sizes left (suc j) s k =
    rw (down, ne_eqb (suc j) 0 (omega arith)) (go (ltb 0 left) (ltb left (get_or sizes j 0)) refl refl)
  where
    down : suc j - 1 ≡ j
    down = omega arith

    go : (a b : Bool) → ltb 0 left ≡ a → ltb left (get_or sizes j 0) ≡ b
        → Kept-if sizes left (suc j) s k (cond a (cond b (keep (get_or sizes j 0 - left) s (suc j) k) k) k)
    go true true p q = inl (inr (ltb-true 0 left p, ltb-true left (get_or sizes j 0) q), refl)
    go true false p q = inr (⊎_elim (λ u. omega arith) (λ u. omega (arith, ltb-false left (get_or sizes j 0) q)), refl)
    go false b p q = inr (⊎_elim (λ u. omega arith) (λ u. omega (arith, ltb-false 0 left p)), refl)

-- a complete position of an allowed choice, and what it comes to
abbrev pub Cand : List ℕ → Pos → Type 0
Cand sizes p = (p.rest ≡ 0) × Proper sizes p.part p.left

abbrev pub value : List ℕ → Pos → Held
value sizes p = record { white = cap sizes p.part - p.left; set = p.number }

abbrev step : List ℕ → Kept → Pos → Kept
step sizes k p = note_at sizes p.rest p.left p.part p.number k

-- the entry t after a position: the lesser of the two if the position belongs to it, else as before
abbrev Step : List ℕ → Kept → Pos → ℕ → Kept → Type 0
Step sizes k p t k' =
    (Cand sizes p × (p.part ≡ t) × Least (held k t) (held k' t) (value sizes p))
    ⊎ ((Cand sizes p → p.part ≡ t → ⊥) × (held k' t ≡ held k t))

step-cases : (sizes : List ℕ) (k : Kept) (p : Pos) (t : ℕ) → Has k t
    → Has (step sizes k p) t × Step sizes k p t (step sizes k p)
unfolding note_at
step-cases sizes k p t h = go p.rest refl
  where
    Is : Kept → Type 0
    Is k' = Has k' t × Step sizes k p t k'

    f : ℕ
    f = cap sizes p.part - p.left

    now : Kept
    now = keep (cap sizes p.part - p.left) p.number p.part k

    keeping : p.rest ≡ 0 → Proper sizes p.part p.left → Dec (p.part ≡ t) → Is now
    keeping r q (yes e) = (
      keep-has f p.number p.part k t h,
      inl (
        (r, q),
        e,
        subst (λ (j : ℕ). Least (held k j) (held now j) (value sizes p)) e
            (keep_same f p.number p.part k (subst (λ (j : ℕ). Has k j) (sym e) h)),
      ),
    )
    keeping r q (no n) = (
      keep-has f p.number p.part k t h,
      inr (λ _ e. n e, keep-other f p.number p.part k t (λ e. n (sym e))),
    )

    noted : p.rest ≡ 0 → Is (note sizes p.left p.part p.number k)
    noted r = ⊎_elim
        (λ u. subst (λ (k' : Kept). Is k') (sym u.1) (keeping r u.0 (ℕ_discrete p.part t)))
        (λ u. subst (λ (k' : Kept). Is k') (sym u.1) (h, inr (λ c _. u.0 c.1, refl)))
        (note-cases sizes p.left p.part p.number k)

    go : (r : ℕ) → p.rest ≡ r → Is (note_at sizes r p.left p.part p.number k)
    go zero e = noted e
    go (suc r) e = (h, inr (λ c _. omega (arith, c.0, e), refl))

-- ---- noting a list of positions

-- the least of the entry as it was and of the positions that belong to it
pub record Found (sizes : List ℕ) (k : Kept) (ps : List Pos) (t : ℕ) (new : Held) : Type 0 where
  pub below : Lex new (held k t)
  pub least : (p : Pos) → Memᴰ p ps → Cand sizes p → p.part ≡ t → Lex new (value sizes p)
  pub source : (new ≡ held k t)
      ⊎ ((p : Pos) × Memᴰ p ps × Cand sizes p × (p.part ≡ t) × (new ≡ value sizes p))

pub found : (sizes : List ℕ) (k : Kept) (ps : List Pos) (t : ℕ) → Has k t → Found sizes k ps t (held (note_all sizes k ps) t)
unfolding note_all
found sizes k [] t h = record {
  below = lex-refl (held k t);
  least = λ p m. absurd (Memᴰ.not-nil m);
  source = inl refl;
}
found sizes k (q ∷ ps) t h =
    more (step-cases sizes k q t h).1 (found sizes (step sizes k q) ps t (step-cases sizes k q t h).0)
  where
    mid : Held
    mid = held (step sizes k q) t

    more : {new : Held} → Step sizes k q t (step sizes k q) → Found sizes (step sizes k q) ps t new → Found sizes k (q ∷ ps) t new
    more {new} (inl u) r = record {
      below = lex-trans new mid (held k t) r.below u.2.below_old;
      least = λ p m c e. ⊎_elim
          (λ same. subst (λ (x : Pos). Lex new (value sizes x)) (sym same)
          (lex-trans new mid (value sizes q) r.below u.2.below-x))
          (λ m'. r.least p m' c e)
          (Memᴰ.cases_cons m);
      source = ⊎_elim
          (λ e. ⊎_elim (λ o. inl (e ∙ o)) (λ x. inr (q, Memᴰ.head refl, u.0, u.1, e ∙ x)) u.2.old-or-x)
          (λ x. inr (x.0, Memᴰ.tail x.1, x.2, x.3, x.4))
          r.source;
    }
    more {new} (inr u) r = record {
      below = subst (λ (x : Held). Lex new x) u.1 r.below;
      least = λ p m c e. ⊎_elim
          (λ same. absurd (u.0 (subst (λ (x : Pos). Cand sizes x) same c) (subst (λ (x : Pos). x.part ≡ t) same e)))
          (λ m'. r.least p m' c e)
          (Memᴰ.cases_cons m);
      source = ⊎_elim
          (λ e. inl (e ∙ u.1))
          (λ x. inr (x.0, Memᴰ.tail x.1, x.2, x.3, x.4))
          r.source;
    }
