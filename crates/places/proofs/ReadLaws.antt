-- Laws of items that are read one after another, none of them refused. Assumes nothing.
use Prim.Native.Nat.{ℕ, suc, ◌+◌, ◌-◌, ◌≤◌, ◌<◌}
use mathlib.Core.Path.{◌≡◌, refl, sym, ap, ◌∙◌, subst}
use mathlib.Core.List.{List, ◌∷◌}
use native.Mathlib.Omega.{arith}
use lib.ListN.{length, get_or, drop}
use lib.Seq.{get_or-drop, drop-drop}
use Rattle.map.specs.Reading.{Read, bad, good, bind, many}
use Rattle.map.specs.Format.{Place, bit_map_bytes, bit_map_field, read_place, read_row}
use Rattle.map.proofs.Onward.{Gives, FieldHas, gives-field}
use Rattle.places.specs.Places.{IsGood}

-- what a reading that is not refused gives
pub record Given {A : Type 0} (r : Read A) : Type 0 where
  pub value : A
  pub next : ℕ
  pub is : r ≡ good value next

pub given : {A : Type 0} (r : Read A) → IsGood r → Given r
given (bad x) h = absurd h
given (good a e) h = record { value = a; next = e; is = refl }

-- the two parts of a reading that goes on after a first one
record Parts {A B : Type 0} (r : Read A) (k : A → ℕ → Read B) (b : B) (e : ℕ) : Type 0 where
  pub value : A
  pub next : ℕ
  pub first : r ≡ good value next
  pub rest : k value next ≡ good b e

parts : {A B : Type 0} (r : Read A) (k : A → ℕ → Read B) {b : B} {e : ℕ} → bind r k ≡ good b e → Parts r k b e
parts (bad x) k q = absurd (let z : ◌≡◌ {A = ℕ} 0 1 = cc in omega arith)
parts (good a m) k q = record { value = a; next = m; first = refl; rest = q }

-- a row's bit map is inside the map, and its places are read after it
pub row-parts : (s : List ℕ) (columns at : ℕ) {row : List Place} {e : ℕ} → read_row s columns at ≡ good row e
    → (at + bit_map_bytes columns ≤ length s) × (many (read_place s at) columns 0 (at + bit_map_bytes columns) ≡ good row e)
unfolding read_row
row-parts s columns at {row} {e} q =
    let p = parts (bit_map_field s columns at) _ q in
    let f = subst (Gives (FieldHas s at (bit_map_bytes columns) tt _)) p.first (gives-field s at (bit_map_bytes columns) tt _) in
    (omega (arith, f.next, f.inside), ap (many (read_place s at) columns 0) (sym f.next) ∙ p.rest)

module _ {A : Type 0} (item : ℕ → ℕ → Read A) where
  -- the loop at item j of n: the items from j on are those of the list l, and the last of them ends at `end`
  pub record Left (n : ℕ) (l : List A) (end j at : ℕ) : Type 0 where
    pub inside : j ≤ n
    pub left : many item (n - j) j at ≡ good (drop j l) end

  pub left-starts : (n start : ℕ) {l : List A} {end : ℕ} → many item n 0 start ≡ good l end → Left n l end 0 start
  left-starts n start q = record {
    inside = omega arith;
    left = ap (λ (k : ℕ). many item k 0 start) (omega arith) ∙ q;
  }

more : (n j : ℕ) → j < n → suc (n - (j + 1)) ≡ n - j
more n j h = omega arith

no_more : (n j : ℕ) → n ≤ j → 0 ≡ n - j
no_more n j h = omega arith

-- item j is the list's, and the next one is read from where it ends
pub record Turn {A : Type 0} (item : ℕ → ℕ → Read A) (d : A) (n : ℕ) (l : List A) (end j at : ℕ) : Type 0 where
  pub next : ℕ
  pub is : item j at ≡ good (get_or l j d) next
  pub after : Left item n l end (j + 1) next

module _ {A : Type 0} {item : ℕ → ℕ → Read A} {n : ℕ} {l : List A} {end j at : ℕ} (w : Left item n l end j at) where
  pub left-turns : (d : A) → j < n → Turn item d n l end j at
  unfolding many
  left-turns d h =
      let p = parts (item j at) _ (ap (λ (k : ℕ). many item k j at) (more n j h) ∙ w.left) in
      let q = parts (many item (n - (j + 1)) (j + 1) p.next) (λ l e. good (p.value ∷ l) e) p.rest in
      let split : p.value ∷ q.value ≡ drop j l = cc in
      let ends : q.next ≡ end = cc in
      let here : p.value ≡ get_or l j d =
      ap (λ (m : List A). get_or m 0 d) split ∙ get_or-drop j l 0 d ∙ ap (λ (k : ℕ). get_or l k d) (omega arith) in
      let later : q.value ≡ drop (j + 1) l = ap (drop 1) split ∙ drop-drop 1 j l in
      record {
        next = p.next;
        is = p.first ∙ ap (λ (a : A). good a p.next) here;
        after = record { inside = omega arith; left = q.first ∙ (λ i. good (later i) (ends i)) };
      }

  pub left-ends : n ≤ j → at ≡ end
  unfolding many
  left-ends h =
      let q = ap (λ (k : ℕ). many item k j at) (no_more n j h) ∙ w.left in
      cc
