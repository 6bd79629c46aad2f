-- A row whose cells don't all stand in the map has a fault. Assumes nothing.
use Rattle.std.proofs.Common.{◌≡◌, ℕ, zero, suc, ◌+◌, ◌-◌, ◌*◌, ◌<◌, ◌≤◌, List, [], ◌∷◌, length, sym, refl, ap, ◌∙◌, subst, arith}
use Rattle.map.specs.declared.Cell.{Cell}
use Rattle.map.specs.Reading.{Read, bad, good, bind, many}
use Rattle.map.specs.Format.{u32_field, latitude_field, longitude_field, read_cell}
use Rattle.map.specs.Cells.{read_cells}
use Rattle.map.proofs.Onward.{Gives, gives-bind, gives-field, FieldHas}
use Rattle.map.proofs.LoopLaws.{sub-step, sub-end}

-- the position after what was read, n bytes on
abbrev Takes : {A : Type 0} → List ℕ → (at n : ℕ) → A → ℕ → Type 0
Takes s at n a e = (e ≡ at + n) × (e ≤ length s)

module _ (s : List ℕ) where
  -- a cell that is read takes 12 bytes of the map
  cell-takes : (at : ℕ) → Gives (Takes s at 12) (read_cell s at)
  unfolding read_cell
  cell-takes at =
      gives-bind {B = Cell} (FieldHas s at 4 _ _) (Takes s at 12) (u32_field s at 0 1_000_000) _ (gives-field s at 4 _ _) (λ p a u h.
      gives-bind {B = Cell} (FieldHas s a 4 _ _) (Takes s at 12) (latitude_field s a) _ (gives-field s a 4 _ _) (λ x b v k.
      gives-bind {B = Cell} (FieldHas s b 4 _ _) (Takes s at 12) (longitude_field s b)
      (λ z e. good (record { people = p; latitude = x; longitude = z }) e) (gives-field s b 4 _ _)
      (λ z e w l. (omega (arith, h.next, k.next, l.next), l.inside))))

  cells-take : (n i at : ℕ) → at ≤ length s → Gives (Takes s at (12 * n)) (many (λ _ a. read_cell s a) n i at)
  unfolding many
  cells-take zero i at h = (omega arith, h)
  cells-take (suc n) i at h =
      gives-bind (Takes s at 12) (Takes s at (12 * suc n)) (read_cell s at) _ (cell-takes at) (λ c m u k.
      gives-bind (Takes s m (12 * n)) (Takes s at (12 * suc n)) (many (λ _ a. read_cell s a) n (i + 1) m) (λ l e. good (c ∷ l) e)
      (cells-take n (i + 1) m k.1) (λ l e v w. (omega (arith, k.0, w.0), w.1)))

  -- so cells that don't all stand in the map are refused
  pub record Refused (n at : ℕ) : Type 0 where
    pub fault : ℕ
    pub is : read_cells s n at ≡ bad fault

  pub cells-short : (n at : ℕ) → at ≤ length s → length s < at + 12 * n → Refused n at
  cells-short n at h short = by (read_cells s n at) refl
    where
      by : (r : Read (List Cell)) → read_cells s n at ≡ r → Refused n at
      by (bad f) e = record { fault = f; is = e }
      by (good l e) q =
          let t = subst (Gives (Takes s at (12 * n))) q (cells-take n 0 at h) in
          absurd (omega (arith, t.0, t.1))

  -- ---- the loop that looks for the fault

  -- the invariant at cell k of n: a fault of all cells is one of those that are left
  pub record Left (n start k at : ℕ) : Type 0 where
    pub inside : k ≤ n
    pub fault : (f : ℕ) → read_cells s n start ≡ bad f → many (λ _ a. read_cell s a) (n - k) k at ≡ bad f

  pub left-starts : {n start : ℕ} → Left n start 0 start
  left-starts {n} {start} = record {
    inside = omega arith;
    fault = λ f e. ap (λ (m : ℕ). many (λ _ a. read_cell s a) m 0 start) (omega arith) ∙ e;
  }

  after : (c : Cell) (r : Read (List Cell)) {f : ℕ} → bind r (λ l e. good (c ∷ l) e) ≡ bad f → r ≡ bad f
  after c (bad x) e = e
  after c (good l m) e = cc

  module _ {n start k at : ℕ} (w : Left n start k at) where
    pub left-turns : {c : Cell} {next : ℕ} → k < n → good c next ≡ read_cell s at → Left n start (k + 1) next
    unfolding many
    left-turns {c} {next} h q = record {
      inside = omega arith;
      fault = λ f e.
          after c (many (λ _ a. read_cell s a) (n - (k + 1)) (k + 1) next)
          (ap (λ (r : Read Cell). bind r (λ a m. bind (many (λ _ b. read_cell s b) (n - (k + 1)) (k + 1) m) (λ l e. good (a ∷ l) e))) q
          ∙ sym (ap (λ (m : ℕ). many (λ _ a. read_cell s a) m k at) (sub-step n k h))
          ∙ w.fault f e);
    }

    -- the fault of a cell is that of all
    pub left-stops : {x : ℕ} → k < n → bad x ≡ read_cell s at → (f : ℕ) → read_cells s n start ≡ bad f → x ≡ f
    unfolding many
    left-stops {x} h q f e = same
        (ap (λ (r : Read Cell). bind r (λ a m. bind (many (λ _ b. read_cell s b) (n - (k + 1)) (k + 1) m) (λ l e. good (a ∷ l) e))) q
        ∙ sym (ap (λ (m : ℕ). many (λ _ a. read_cell s a) m k at) (sub-step n k h))
        ∙ w.fault f e)
      where
        same : ◌≡◌ {A = Read (List Cell)} (bad x) (bad f) → x ≡ f
        same v = cc

    -- and where none is left, there is none
    pub left-ends : n ≤ k → (f : ℕ) → read_cells s n start ≡ bad f → ⊥
    unfolding many
    left-ends h f e =
        none (sym (ap (λ (m : ℕ). many (λ _ a. read_cell s a) m k at) (sub-end n k h)) ∙ w.fault f e)
      where
        none : ◌≡◌ {A = Read (List Cell)} (good [] at) (bad f) → ⊥
        none v = let z : ◌≡◌ {A = ℕ} 0 1 = cc in omega arith
