-- The order of ranks: to be level or behind is transitive and total, and with one partial area it goes by white space.
-- Assumes nothing.
use Prim.Native.Nat.{ℕ, ◌-◌, ◌*◌, ◌<◌, ◌≤◌}
use mathlib.Core.Path.{◌≡◌, refl, sym, ap, ◌∙◌}
use mathlib.Core.Bool.{Bool, true, false, cond, not, beq, ◌&&◌, true≢false, false≢true}
use mathlib.Core.Logic.{◌⊎◌, inl, inr, ⊎_elim}
use native.Mathlib.Nat.{eq-or-lt_of_le}
use native.Mathlib.Omega.{arith}
use lib.Dec.{ltb, leb}
use Rattle.lists.specs.Sums.{flag}
use borrow.Author.Tests.{ltb-true, ltb-false, leb-true, leb-false, lt-ltb, le-ltb}
use Rattle.lists.proofs.Tests.{by-test}
use Rattle.search.specs.declared.Rank.{Rank}
use Rattle.search.specs.Choice.{rank_of, ahead}

abbrev key : Rank → ℕ
key a = a.white * a.weight

-- a is level with b or behind it
abbrev pub Behind : Rank → Rank → Type 0
Behind a b =
    (flag b.far < flag a.far)
    ⊎ ((flag b.far ≡ flag a.far) × ((b.white < a.white) ⊎ ((b.white ≡ a.white) × (key a ≤ key b))))

by_order : {C : Type 0} (m n : ℕ) → (m < n → C) → (m ≡ n → C) → (n < m → C) → C
by_order m n less level more =
    by-test (ltb m n)
    (λ e. less (ltb-true m n e))
    (λ e. by-test (ltb n m) (λ d. more (ltb-true n m d)) (λ d. level (omega (arith, ltb-false m n e, ltb-false n m d))))

-- the products across, at one white space
across : (a b : Rank) → a.white ≡ b.white → (a.white * b.weight ≡ key b) × (b.white * a.weight ≡ key a)
across a b e = (ap (λ (w : ℕ). w * b.weight) e, ap (λ (w : ℕ). w * a.weight) (sym e))

-- ---- `Behind` is the opposite of ahead

far-test : (p q : Bool) → (not p && q) ≡ ltb (flag p) (flag q)
far-test true true = refl
far-test true false = refl
far-test false true = refl
far-test false false = refl

-- one of two is far, as the code tests it
pub far-apart : (p q : Bool) (r : Bool) → not (beq p q) ≡ true → q ≡ cond (not p && q) true (cond (not q && p) false r)
far-apart true true r h = absurd (false≢true h)
far-apart true false r h = refl
far-apart false true r h = refl
far-apart false false r h = absurd (false≢true h)

pub far-level : (p q : Bool) (r x : Bool) → not (beq p q) ≡ false → x ≡ r → x ≡ cond (not p && q) true (cond (not q && p) false r)
far-level true true r x h e = e
far-level true false r x h e = absurd (true≢false h)
far-level false true r x h e = absurd (true≢false h)
far-level false false r x h e = e

-- the tests of `ahead`, with far as 1 or 0
by-flags : (a b : Rank) → ahead a b
    ≡ cond (ltb (flag a.far) (flag b.far)) true (cond (ltb (flag b.far) (flag a.far)) false
    (cond (ltb a.white b.white) true (cond (ltb b.white a.white) false (ltb (a.white * b.weight) (b.white * a.weight)))))
unfolding ahead
by-flags a b = rw (far-test a.far b.far, far-test b.far a.far)

pub behind-of : (a b : Rank) → ahead a b ≡ false → Behind a b
behind-of a b h =
    go (ltb (flag a.far) (flag b.far)) (ltb (flag b.far) (flag a.far)) (ltb a.white b.white) (ltb b.white a.white)
    refl refl refl refl (sym (by-flags a b) ∙ h)
  where
    go : (p q r s : Bool) → ltb (flag a.far) (flag b.far) ≡ p → ltb (flag b.far) (flag a.far) ≡ q
        → ltb a.white b.white ≡ r → ltb b.white a.white ≡ s
        → cond p true (cond q false (cond r true (cond s false (ltb (a.white * b.weight) (b.white * a.weight))))) ≡ false
        → Behind a b
    go true q r s e₁ e₂ e₃ e₄ x = absurd (true≢false x)
    go false true r s e₁ e₂ e₃ e₄ x = inl (ltb-true _ _ e₂)
    go false false true s e₁ e₂ e₃ e₄ x = absurd (true≢false x)
    go false false false true e₁ e₂ e₃ e₄ x = inr (omega (arith, ltb-false), inl (ltb-true _ _ e₄))
    go false false false false e₁ e₂ e₃ e₄ x =
        let w : a.white ≡ b.white = omega (arith, ltb-false) in
        let k = ltb-false (a.white * b.weight) (b.white * a.weight) x in
        inr (omega (arith, ltb-false), inr (sym w, omega (arith, across a b w, k)))

pub of-behind : (a b : Rank) → Behind a b → ahead a b ≡ false
of-behind a b (inl h) =
    by-flags a b ∙ rw (le-ltb (flag a.far) (flag b.far) (omega arith), lt-ltb (flag b.far) (flag a.far) h)
of-behind a b (inr h) =
    by-flags a b ∙ rw (le-ltb (flag a.far) (flag b.far) (omega arith), le-ltb (flag b.far) (flag a.far) (omega arith)) (go h.1)
  where
    people : Bool
    people = ltb (a.white * b.weight) (b.white * a.weight)

    go : (b.white < a.white) ⊎ ((b.white ≡ a.white) × (key a ≤ key b))
        → cond (ltb a.white b.white) true (cond (ltb b.white a.white) false people) ≡ false
    go (inl w) = rw (le-ltb a.white b.white (omega arith), lt-ltb b.white a.white w)
    go (inr w) =
        rw (le-ltb a.white b.white (omega arith), le-ltb b.white a.white (omega arith))
        (le-ltb (a.white * b.weight) (b.white * a.weight) (omega (arith, across a b (sym w.0))))

-- ---- it is transitive and total

behind-behind : (a b c : Rank) → Behind a b → Behind b c → Behind a c
behind-behind a b c (inl p) (inl q) = inl (omega arith)
behind-behind a b c (inl p) (inr q) = inl (omega arith)
behind-behind a b c (inr p) (inl q) = inl (omega arith)
behind-behind a b c (inr p) (inr q) = inr (omega arith, go p.1 q.1)
  where
    go : (b.white < a.white) ⊎ ((b.white ≡ a.white) × (key a ≤ key b))
        → (c.white < b.white) ⊎ ((c.white ≡ b.white) × (key b ≤ key c))
        → (c.white < a.white) ⊎ ((c.white ≡ a.white) × (key a ≤ key c))
    go (inl x) (inl y) = inl (omega arith)
    go (inl x) (inr y) = inl (omega arith)
    go (inr x) (inl y) = inl (omega arith)
    go (inr x) (inr y) = inr (omega arith, omega arith)

pub behind-trans : (a b c : Rank) → ahead a b ≡ false → ahead b c ≡ false → ahead a c ≡ false
behind-trans a b c p q = of-behind a c (behind-behind a b c (behind-of a b p) (behind-of b c q))

either : (a b : Rank) → Behind a b ⊎ Behind b a
either a b =
    by_order (flag a.far) (flag b.far)
    (λ l. inr (inl l))
    (λ f. by_order a.white b.white
    (λ l. inr (inr (f, inl l)))
    (λ w. by-test (leb (key a) (key b))
    (λ e. inl (inr (sym f, inr (sym w, leb-true (key a) (key b) e))))
    (λ e. inr (inr (f, inr (w, omega (arith, leb-false (key a) (key b) e))))))
    (λ l. inl (inr (sym f, inl l))))
    (λ l. inl (inl l))

pub behind-total : (a b : Rank) → (ahead a b ≡ false) ⊎ (ahead b a ≡ false)
behind-total a b = ⊎_elim (λ h. inl (of-behind a b h)) (λ h. inr (of-behind b a h)) (either a b)

-- ---- with one partial area

module _ (size w w' weight : ℕ) where
  -- not all-whole at a white space
  abbrev far : ℕ → Bool
  far v = ltb (10 * (size - v)) (9 * size)

  abbrev ranking : Bool → ℕ → Rank
  ranking p v = record { far = p; white = v; weight = weight }

  -- no less white space is no better
  pub more-white : w ≤ w' → ahead (rank_of size w' weight) (rank_of size w weight) ≡ false
  unfolding rank_of
  more-white h =
      of-behind (rank_of size w' weight) (rank_of size w weight) (go (far w) (far w') refl refl (eq-or-lt_of_le h))
    where
      go : (p q : Bool) → far w ≡ p → far w' ≡ q → (w ≡ w') ⊎ (w < w') → Behind (ranking q w') (ranking p w)
      go false true e₁ e₂ x = inl (omega arith)
      go true false e₁ e₂ x =
          absurd (omega (arith, ltb-false (10 * (size - w')) (9 * size) e₂, ltb-true (10 * (size - w)) (9 * size) e₁))
      go false false e₁ e₂ (inl x) = inr (refl, inr (x, omega (arith, ap (λ (n : ℕ). n * weight) x)))
      go false false e₁ e₂ (inr x) = inr (refl, inl x)
      go true true e₁ e₂ (inl x) = inr (refl, inr (x, omega (arith, ap (λ (n : ℕ). n * weight) x)))
      go true true e₁ e₂ (inr x) = inr (refl, inl x)

  -- and less is better
  pub less-white : w < w' → ahead (rank_of size w weight) (rank_of size w' weight) ≡ false → ⊥
  unfolding rank_of
  less-white h e = go (far w) (far w') refl refl (behind-of (rank_of size w weight) (rank_of size w' weight) e)
    where
      go : (p q : Bool) → far w ≡ p → far w' ≡ q → Behind (ranking p w) (ranking q w') → ⊥
      go true false e₁ e₂ x =
          omega (arith, ltb-false (10 * (size - w')) (9 * size) e₂, ltb-true (10 * (size - w)) (9 * size) e₁)
      go false q e₁ e₂ (inl x) = omega arith
      go true true e₁ e₂ (inl x) = omega arith
      go false q e₁ e₂ (inr x) = ⊎_elim (λ y. omega arith) (λ y. omega arith) x.1
      go true true e₁ e₂ (inr x) = ⊎_elim (λ y. omega arith) (λ y. omega arith) x.1
