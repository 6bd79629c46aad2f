-- The positions that the search visits are the choices: each choice that fits has a complete position, and each complete
-- position is one. Assumes nothing.
use Prim.Native.Nat.{ℕ, ◌+◌, ◌-◌, ◌*◌, ◌≤◌}
use mathlib.Core.Path.{◌≡◌, refl, ap, ◌∙◌}
use mathlib.Core.Bool.{Bool, true, false, cond, false≢true}
use mathlib.Core.Logic.{◌⊎◌, inl, inr, ⊎_elim}
use mathlib.Core.List.Memᴰ
use mathlib.Core.List.{List, [], ◌∷◌, Memᴰ}
use native.Mathlib.Omega.{arith}
use lib.Dec.{leb, eqb}
use lib.ListN.{length}
use borrow.Author.Tests.{le-leb, eq-eqb, leb-true, eqb-true}
use Rattle.search.specs.Search.{Pos, positions}
use Rattle.search.specs.Choice.{Mark, out, whole, part, wholes, parts, entry_from, number_from}

-- a complete position
abbrev complete : ℕ → ℕ → ℕ → Pos
complete left e s = record { rest = 0; left = left; part = e; number = s }

-- the complete position of a choice
abbrev pub outcome : List ℕ → ℕ → ℕ → ℕ → ℕ → ℕ → List Mark → Pos
outcome ms at left e s bit c = complete (left - wholes ms c) (entry_from at e c) (number_from s bit c)

-- at most one partial area, with the one that e names
abbrev pub Single : ℕ → List Mark → Type 0
Single e c = ((e ≡ 0) × (parts c ≤ 1)) ⊎ (parts c ≡ 0)

-- in a list that is there only if a test holds
in-cond : (b : Bool) {p : Pos} {l : List Pos} → b ≡ true → Memᴰ p l → Memᴰ p (cond b l [])
in-cond true h m = m
in-cond false h m = absurd (false≢true h)

of-cond : (b : Bool) {p : Pos} (l : List Pos) → Memᴰ p (cond b l []) → (b ≡ true) × Memᴰ p l
of-cond true l m = (refl, m)
of-cond false l m = absurd (Memᴰ.not-nil m)

-- ---- each choice that fits is visited

pub visited : (ms : List ℕ) (c : List Mark) (at left e s bit : ℕ) → length c ≡ length ms → Single e c → wholes ms c ≤ left
    → Memᴰ (outcome ms at left e s bit c) (positions ms at left e s bit)
unfolding positions wholes parts entry_from number_from
visited [] [] at left e s bit h o w =
    let z : left - 0 ≡ left = omega arith in Memᴰ.head (ap (λ (l : ℕ). complete l e s) z)
visited [] (x ∷ c) at left e s bit h o w = absurd (omega arith)
visited (m ∷ ms) [] at left e s bit h o w = absurd (omega arith)
visited (m ∷ ms) (out ∷ c) at left e s bit h o w =
    Memᴰ.tail (Memᴰ.append_left _ (visited ms c (at + 1) left e s (bit * 2) (omega arith) o w))
visited (m ∷ ms) (whole ∷ c) at left e s bit h o w =
    Memᴰ.tail (Memᴰ.append_right (positions ms (at + 1) left e s (bit * 2))
    (Memᴰ.append_left _ (in-cond (leb m left) (le-leb m left (omega arith))
    (Memᴰ.cast same (visited ms c (at + 1) (left - m) e (s + bit) (bit * 2) (omega arith) o (omega arith))))))
  where
    same : outcome (m ∷ ms) at left e s bit (whole ∷ c) ≡ outcome ms (at + 1) (left - m) e (s + bit) (bit * 2) c
    same = ap (λ (l : ℕ). complete l (entry_from (at + 1) e c) (number_from (s + bit) (bit * 2) c)) (omega arith)
visited (m ∷ ms) (part ∷ c) at left e s bit h o w =
    Memᴰ.tail (Memᴰ.append_right (positions ms (at + 1) left e s (bit * 2))
    (Memᴰ.append_right (cond (leb m left) (positions ms (at + 1) (left - m) e (s + bit) (bit * 2)) [])
    (in-cond (eqb e 0) (eq-eqb e 0 none) (visited ms c (at + 1) left (at + 1) s (bit * 2) (omega arith) (inr last) w))))
  where
    none : e ≡ 0
    none = ⊎_elim (λ u. u.0) (λ u. absurd (omega arith)) o

    last : parts c ≡ 0
    last = ⊎_elim (λ u. omega arith) (λ u. absurd (omega arith)) o

-- ---- each complete position is a choice that fits

pub record Chosen (ms : List ℕ) (at left e s bit : ℕ) (p : Pos) : Type 0 where
  pub choice : List Mark
  pub each : length choice ≡ length ms
  pub single : Single e choice
  pub under : wholes ms choice ≤ left
  pub same : p ≡ outcome ms at left e s bit choice

module _ (n : ℕ) (ms : List ℕ) (at left e s bit : ℕ) (p : Pos) where
  -- by what is made of the first area
  chosen-out : Chosen ms (at + 1) left e s (bit * 2) p → Chosen (n ∷ ms) at left e s bit p
  unfolding wholes parts entry_from number_from
  chosen-out q = record {
    choice = out ∷ q.choice;
    each = omega (arith, q.each);
    single = q.single;
    under = q.under;
    same = q.same;
  }

  chosen-whole : n ≤ left → Chosen ms (at + 1) (left - n) e (s + bit) (bit * 2) p → Chosen (n ∷ ms) at left e s bit p
  unfolding wholes parts entry_from number_from
  chosen-whole h q = record {
    choice = whole ∷ q.choice;
    each = omega (arith, q.each);
    single = q.single;
    under = omega (arith, q.under);
    same = q.same ∙ ap
        (λ (l : ℕ). complete l (entry_from (at + 1) e q.choice) (number_from (s + bit) (bit * 2) q.choice))
        (omega arith);
  }

  chosen-part : e ≡ 0 → Chosen ms (at + 1) left (at + 1) s (bit * 2) p → Chosen (n ∷ ms) at left e s bit p
  unfolding wholes parts entry_from number_from
  chosen-part h q = record {
    choice = part ∷ q.choice;
    each = omega (arith, q.each);
    single = inl (h, ⊎_elim (λ u. absurd (omega arith)) (λ u. omega arith) q.single);
    under = q.under;
    same = q.same;
  }

pub chosen : (ms : List ℕ) (at left e s bit : ℕ) (p : Pos) → p.rest ≡ 0 → Memᴰ p (positions ms at left e s bit)
    → Chosen ms at left e s bit p
unfolding positions wholes parts entry_from number_from
chosen [] at left e s bit p r m = record {
  choice = [];
  each = refl;
  single = inr refl;
  under = omega arith;
  same = Memᴰ.eq_of_singleton m ∙ ap (λ (l : ℕ). complete l e s) (omega arith);
}
chosen (n ∷ ms) at left e s bit p r m = ⊎_elim
    (λ h. absurd (omega (arith, ap (λ (q : Pos). q.rest) h, r)))
    (λ t. ⊎_elim
    (λ a. chosen-out n ms at left e s bit p (chosen ms (at + 1) left e s (bit * 2) p r a))
    (λ b. ⊎_elim
    (λ a. let w = of-cond (leb n left) _ a in
    chosen-whole n ms at left e s bit p (leb-true n left w.0) (chosen ms (at + 1) (left - n) e (s + bit) (bit * 2) p r w.1))
    (λ a. let w = of-cond (eqb e 0) _ a in
    chosen-part n ms at left e s bit p (eqb-true e 0 w.0) (chosen ms (at + 1) left (at + 1) s (bit * 2) p r w.1))
    (Memᴰ.append_cases (cond (leb n left) (positions ms (at + 1) (left - n) e (s + bit) (bit * 2)) []) b))
    (Memᴰ.append_cases (positions ms (at + 1) left e s (bit * 2)) t))
    (Memᴰ.cases_cons m)
