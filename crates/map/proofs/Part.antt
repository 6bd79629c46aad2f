-- The rows of an area read the same in the part of the map that holds them. Assumes nothing.
use Rattle.std.proofs.Common.{◌≡◌, ℕ, zero, suc, ◌+◌, ◌-◌, ◌*◌, ◌/◌, ◌%◌, ◌^◌, ◌<◌, ◌≤◌, Bool, true, false, cond, not, ◌&&◌, eqb, leb}
use Rattle.std.proofs.Common.{List, ◌∷◌, length, get_or, take, drop, ℤ, sym, refl, ap, ◌∙◌, subst, arith, length-drop, length-take-le}
use Rattle.std.proofs.Common.{get_or-drop, get_or-take, le-leb}
use Rattle.map.specs.declared.Cell.{Cell}
use Rattle.map.specs.Reading.{Read, bad, good, bind, many}
use Rattle.map.specs.Format.{
  field,
  within,
  number_at,
  unsigned_field,
  signed32,
  u32_field,
  i32_field,
  latitude_field,
  longitude_field,
  read_cell,
  Place,
  gap,
  cell,
  bit_at,
  read_place,
  clear_from,
  bit_map_bytes,
  bit_map_field,
  read_row,
  read_rows,
}
use Rattle.lists.proofs.Tests.{takes}
use Rattle.units.specs.Coordinates.{is_latitude, is_longitude}
use Rattle.map.specs.Answers.{between}
use Rattle.map.proofs.Onward.{
  Gives,
  FieldHas,
  gives-field,
  Onward,
  onward-field,
  onward-bind,
  onward-many,
  onward-cell,
  onward-place,
  onward-row,
}

module _ (s : List ℕ) (k m : ℕ) (in-s : k + m ≤ length s) where
  abbrev part : List ℕ
  part = take m (drop k s)

  part_length : length part ≡ m
  part_length = length-take-le m (drop k s) (rw length-drop (omega arith))

  byte : (at : ℕ) → k ≤ at → at < k + m → get_or part (at - k) 0 ≡ get_or s at 0
  byte at h l =
      get_or-take m (drop k s) (at - k) 0 (omega arith) ∙ get_or-drop k s (at - k) 0 ∙ ap (λ (i : ℕ). get_or s i 0) (omega arith)

  -- r is read in the map, and r' in the part: they agree where r ends inside the part
  abbrev pub Moved : {A : Type 0} → Read A → Read A → Type 0
  Moved (bad x) r' = Unit {0}
  Moved (good a e) r' = e ≤ k + m → r' ≡ good a (e - k)

  moved-bind : {A B : Type 0} (at : ℕ) → k ≤ at → (r r' : Read A) (f f' : A → ℕ → Read B)
      → Gives (Onward s at) r → Moved r r'
      → ((a : A) (e : ℕ) → e ≤ length s → Gives (Onward s e) (f a e))
      → ((a : A) (e : ℕ) → r ≡ good a e → at ≤ e → e ≤ k + m → Moved (f a e) (f' a (e - k)))
      → Moved (bind r f) (bind r' f')
  moved-bind at h (bad x) r' f f' o p g w = tt
  moved-bind {A} {B} at h (good a e) r' f f' o p g w = go (f a e) (g a e o.1) (λ u. w a e refl o.0 u)
    where
      go : (q : Read B) → Gives (Onward s e) q → (e ≤ k + m → Moved q (f' a (e - k))) → Moved q (bind r' f')
      go (bad x) y z = tt
      go (good b e₂) y z = λ u. ap (λ (x : Read A). bind x f') (p (omega arith)) ∙ z (omega arith) u

  moved-field : {A : Type 0} (at n : ℕ) (v v' : A) (ok ok' : Bool) → k ≤ at → (at + n ≤ k + m → (v ≡ v') × (ok ≡ ok'))
      → Moved (field s at n v ok) (field part (at - k) n v' ok')
  unfolding field
  moved-field {A} at n v v' ok ok' h q = by (leb (at + n) (length s)) ok refl
    where
      by : (t o : Bool) → ok ≡ o
          → Moved (cond t (cond o (good v (at + n)) (bad 2)) (bad 1))
          (cond (leb (at - k + n) (length part)) (cond ok' (good v' (at - k + n)) (bad 2)) (bad 1))
      by true true e = λ u.
          sym (takes (bad 1) (le-leb (at - k + n) (length part) (omega (arith, part_length))))
          ∙ sym (takes (bad 2) (sym (q u).1 ∙ e))
          ∙ (λ i. good (sym (q u).0 i) (place i))
        where
          place : at - k + n ≡ at + n - k
          place = omega arith
      by true false e = tt
      by false o e = tt

  -- ---- cells

  number_same : (n at : ℕ) → k ≤ at → at + n ≤ k + m → number_at s at n ≡ number_at part (at - k) n
  unfolding number_at
  number_same zero at h l = refl
  number_same (suc n) at h l =
      let next : at + 1 - k ≡ at - k + 1 = omega arith in
      let later = number_same n (at + 1) (omega arith) (omega arith) ∙ ap (λ (i : ℕ). number_at part i n) next in
      (λ i. sym (byte at h (omega arith)) i + 256 * later i)

  moved-unsigned : (at n low high : ℕ) → k ≤ at → Moved (unsigned_field s at n low high) (unsigned_field part (at - k) n low high)
  moved-unsigned at n low high h =
      moved-field at n _ _ _ _ h (λ u. (number_same n at h u, ap (within low high) (number_same n at h u)))

  moved-i32 : (at : ℕ) (limits : ℤ → Bool) → k ≤ at → Moved (i32_field s at limits) (i32_field part (at - k) limits)
  moved-i32 at limits h =
      moved-field at 4 _ _ _ _ h
      (λ u. (ap signed32 (number_same 4 at h u), ap (λ (v : ℕ). limits (signed32 v)) (number_same 4 at h u)))

  moved-cell : (at : ℕ) → k ≤ at → Moved (read_cell s at) (read_cell part (at - k))
  unfolding read_cell
  moved-cell at h =
      moved-bind {B = Cell} at h (u32_field s at 0 1_000_000) (u32_field part (at - k) 0 1_000_000) _ _
      (onward-field s at 4 _ _) (moved-unsigned at 4 0 1_000_000 h)
      (λ p a u. latitude-onward p a)
      (λ p a q l u.
      moved-bind {B = Cell} a (omega arith) (latitude_field s a) (latitude_field part (a - k)) _ _
      (onward-field s a 4 _ _) (moved-i32 a is_latitude (omega arith))
      (λ x b w. longitude-onward p x b)
      (λ x b q' l' u'.
      moved-bind {B = Cell} b (omega arith) (longitude_field s b) (longitude_field part (b - k)) (done p x) (done p x)
      (onward-field s b 4 _ _) (moved-i32 b is_longitude (omega arith))
      (λ y e v. (omega arith, v)) (λ y e q'' l'' u'' v. refl)))
    where
      done : ℕ → ℤ → ℤ → ℕ → Read Cell
      done p x y e = good (record { people = p; latitude = x; longitude = y }) e

      longitude-onward : (p : ℕ) (x : ℤ) (b : ℕ) → Gives (Onward s b) (bind (longitude_field s b) (done p x))
      longitude-onward p x b =
          onward-bind s {B = Cell} b (longitude_field s b) (done p x) (onward-field s b 4 _ _) (λ y e v. (omega arith, v))

      latitude-onward : (p a : ℕ) → Gives (Onward s a) (bind (latitude_field s a) (λ x b. bind (longitude_field s b) (done p x)))
      latitude-onward p a =
          onward-bind s {B = Cell} a (latitude_field s a) _ (onward-field s a 4 _ _) (λ x b w. longitude-onward p x b)

  -- ---- rows

  bit-same : (bits j : ℕ) → k ≤ bits → bits + j / 8 < k + m → bit_at part (bits - k) j ≡ bit_at s bits j
  unfolding bit_at
  bit-same bits j h l =
      ap (λ (b : ℕ). eqb (b / 2 ^ (j % 8) % 2) 1)
      (ap (λ (i : ℕ). get_or part i 0) (omega arith) ∙ byte (bits + j / 8) (omega arith) l)

  clear-same : (bits n j : ℕ) → k ≤ bits → bits + (j + n + 7) / 8 ≤ k + m → clear_from s bits j n ≡ clear_from part (bits - k) j n
  unfolding clear_from
  clear-same bits zero j h l = refl
  clear-same bits (suc n) j h l =
      (λ i. not (sym (bit-same bits j h (omega arith)) i) && clear-same bits n (j + 1) h (omega arith) i)

  moved-place : (bits j at : ℕ) → k ≤ bits → bits + j / 8 < k + m → k ≤ at
      → Moved (read_place s bits j at) (read_place part (bits - k) j (at - k))
  unfolding read_place
  moved-place bits j at h l g =
      subst (λ (t : Bool). Moved (read_place s bits j at) (by t (at - k) part)) (sym (bit-same bits j h l)) (go (bit_at s bits j))
    where
      by : Bool → ℕ → List ℕ → Read Place
      by t a l = cond t (bind (read_cell l a) (λ c e. good (cell c) e)) (good gap a)

      go : (t : Bool) → Moved (by t at s) (by t (at - k) part)
      go true =
          moved-bind at g (read_cell s at) (read_cell part (at - k)) (λ c e. good (cell c) e) (λ c e. good (cell c) e)
          (onward-cell s at) (moved-cell at g) (λ c e w. (omega arith, w)) (λ c e q l u v. refl)
      go false = λ u. refl

  moved-many : {A : Type 0} (item item' : ℕ → ℕ → Read A) (n j at : ℕ) → k ≤ at → at ≤ length s
      → ((i a : ℕ) → a ≤ length s → Gives (Onward s a) (item i a))
      → ((i a : ℕ) → i < j + n → k ≤ a → a ≤ length s → Moved (item i a) (item' i (a - k)))
      → Moved (many item n j at) (many item' n j (at - k))
  unfolding many
  moved-many item item' zero j at h l o f = λ u. refl
  moved-many {A} item item' (suc n) j at h l o f =
      moved-bind at h (item j at) (item' j (at - k)) _ _ (o j at l) (f j at (omega arith) h l)
      (λ a e w. onward-bind s e (many item n (j + 1) e) _ (onward-many s item o n (j + 1) e w) (λ x e' v. (omega arith, v)))
      (λ a e q y z.
      moved-bind e (omega arith) (many item n (j + 1) e) (many item' n (j + 1) (e - k))
      (λ x e'. good (a ∷ x) e') (λ x e'. good (a ∷ x) e')
      (onward-many s item o n (j + 1) e (omega arith))
      (moved-many item item' n (j + 1) e (omega arith) (omega arith) o (λ i b u v w. f i b (omega arith) v w))
      (λ x e' v. (omega arith, v)) (λ x e' q' l' u' v. refl))

  moved_row : (columns at : ℕ) → k ≤ at → Moved (read_row s columns at) (read_row part columns (at - k))
  unfolding read_row
  moved_row columns at h =
      moved-bind at h (bit_map_field s columns at) (bit_map_field part columns (at - k)) _ _
      (onward-field s at (bit_map_bytes columns) tt _)
      (moved-field at (bit_map_bytes columns) tt tt _ _ h
      (λ u. (refl, clear-same at (bit_map_bytes columns * 8 - columns) columns h (omega arith))))
      (λ bits e w. onward-many s (read_place s at) (onward-place s at) columns 0 e w)
      (λ bits e q l u. moved-many (read_place s at) (read_place part (at - k)) columns 0 e (omega arith) (omega arith) (onward-place s at)
      (λ i b v y z. moved-place at i b h (omega (arith, ends bits e q)) y))
    where
      ends : (bits : Unit {0}) (e : ℕ) → bit_map_field s columns at ≡ good bits e → e ≡ at + bit_map_bytes columns
      ends bits e q = (subst (Gives (FieldHas s at (bit_map_bytes columns) tt _)) q (gives-field s at (bit_map_bytes columns) tt _)).next

  pub moved-rows : (columns rows at : ℕ) → k ≤ at → at ≤ length s
      → Moved (read_rows s columns rows at) (read_rows part columns rows (at - k))
  moved-rows columns rows at h l =
      moved-many (λ _ a. read_row s columns a) (λ _ a. read_row part columns a) rows 0 at h l
      (λ i a w. onward-row s columns a) (λ i a u v w. moved_row columns a v)

-- rows that are read from `start` to `end` are read in the part between from 0 on
pub part-reads : (s : List ℕ) (columns rows start end : ℕ) (grid : List (List Place)) → start ≤ end → end ≤ length s
    → read_rows s columns rows start ≡ good grid end
    → read_rows (between s start end) columns rows 0 ≡ good grid (end - start)
part-reads s columns rows start end grid h l q =
    let m = end - start in
    let inside : start + m ≤ length s = omega arith in
    let moved : Moved s start m inside (good grid end) (read_rows (between s start end) columns rows (start - start)) =
    subst (λ (r : Read (List (List Place))). Moved s start m inside r (read_rows (between s start end) columns rows (start - start))) q
    (moved-rows s start m inside columns rows start (omega arith) (omega arith)) in
    ap (read_rows (between s start end) columns rows) (omega arith) ∙ moved (omega arith)
