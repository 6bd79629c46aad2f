-- What holds of whatever is read: the position goes forward and not past the end, and each value is within its limits.
-- Assumes nothing.
use Rattle.std.proofs.Common.{◌≡◌, ℕ, zero, suc, ◌+◌, ◌<◌, ◌≤◌, Bool, true, false, cond, ltb, leb, List, ◌∷◌, length, sym, refl, ap}
use Rattle.std.proofs.Common.{subst, arith, ltb-true, leb-true}
use Rattle.map.specs.declared.Cell.{Cell}
use Rattle.map.specs.Reading.{Read, bad, good, bind, many}
use Rattle.map.specs.Format.{
  field,
  within,
  number_at,
  unsigned_field,
  u16_field,
  u32_field,
  latitude_field,
  longitude_field,
  read_cell,
  gap,
  cell,
  bit_at,
  read_place,
  bit_map_bytes,
  bit_map_field,
  read_row,
  read_rows,
  Head,
  number_field,
  weight_field,
  size_field,
  read_head,
}
use Rattle.map.specs.Accepted.{Within, CellHolds, PlaceHolds, RowHolds, GridHolds}
use Rattle.lists.specs.Sums.{All}
use Rattle.lists.proofs.Tests.{first_of, second-of}

-- P of what is read and of the position after it, if the reading is good
abbrev pub Gives : {A : Type 0} → (A → ℕ → Type 0) → Read A → Type 0
Gives P (bad x) = Unit {0}
Gives P (good a e) = P a e

module _ {A : Type 0} where
  pub gives-any : (r : Read A) → Gives (λ a e. Unit {0}) r
  gives-any (bad x) = tt
  gives-any (good a e) = tt

  pub gives-test : (P : A → ℕ → Type 0) (t : Bool) (a b : Read A) → (t ≡ true → Gives P a) → Gives P b → Gives P (cond t a b)
  gives-test P true a b p q = p refl
  gives-test P false a b p q = q

  pub gives-map : (P Q : A → ℕ → Type 0) (r : Read A) → Gives P r → ((a : A) (m : ℕ) → P a m → Q a m) → Gives Q r
  gives-map P Q (bad x) p f = tt
  gives-map P Q (good a m) p f = f a m p

pub gives-bind : {A B : Type 0} (P : A → ℕ → Type 0) (Q : B → ℕ → Type 0) (r : Read A) (k : A → ℕ → Read B)
    → Gives P r → ((a : A) (m : ℕ) → r ≡ good a m → P a m → Gives Q (k a m)) → Gives Q (bind r k)
gives-bind P Q (bad x) k p f = tt
gives-bind P Q (good a m) k p f = f a m refl p

-- ---- a field

pub record FieldHas {A : Type 0} (s : List ℕ) (at n : ℕ) (v : A) (ok : Bool) (x : A) (e : ℕ) : Type 0 where
  pub value : x ≡ v
  pub limits : ok ≡ true
  pub next : e ≡ at + n
  pub inside : e ≤ length s

pub gives-field : {A : Type 0} (s : List ℕ) (at n : ℕ) (v : A) (ok : Bool) → Gives (FieldHas s at n v ok) (field s at n v ok)
unfolding field
gives-field s at n v ok =
    gives-test (FieldHas s at n v ok) (leb (at + n) (length s)) (cond ok (good v (at + n)) (bad 2)) (bad 1)
    (λ h. gives-test (FieldHas s at n v ok) ok (good v (at + n)) (bad 2)
    (λ k. record { value = refl; limits = k; next = refl; inside = leb-true (at + n) (length s) h }) tt) tt

pub within-is : (low high v : ℕ) → within low high v ≡ true → Within low high v
within-is low high v e = (leb-true low v (first_of (leb low v) (leb v high) e), leb-true v high (second-of (leb low v) (leb v high) e))

-- a field without a sign is within its limits
pub gives-limits : (s : List ℕ) (at n low high : ℕ)
    → Gives (λ x e. Within low high x × (e ≤ length s)) (unsigned_field s at n low high)
gives-limits s at n low high =
    let v = number_at s at n in
    gives-map (FieldHas s at n v (within low high v)) (λ x e. Within low high x × (e ≤ length s)) (unsigned_field s at n low high)
    (gives-field s at n v (within low high v))
    (λ x e h. (subst (Within low high) (sym h.value) (within-is low high v h.limits), h.inside))

-- ---- the position goes forward, and not past the end

abbrev pub Onward : {A : Type 0} → List ℕ → ℕ → A → ℕ → Type 0
Onward s at a e = (at ≤ e) × (e ≤ length s)

module _ (s : List ℕ) where
  pub onward-field : {A : Type 0} (at n : ℕ) (v : A) (ok : Bool) → Gives (Onward s at) (field s at n v ok)
  onward-field at n v ok =
      gives-map (FieldHas s at n v ok) (Onward s at) (field s at n v ok) (gives-field s at n v ok) (λ a m p. (omega arith, p.inside))

  pub onward-bind : {A B : Type 0} (at : ℕ) (r : Read A) (k : A → ℕ → Read B) → Gives (Onward s at) r
      → ((a : A) (m : ℕ) → m ≤ length s → Gives (Onward s m) (k a m)) → Gives (Onward s at) (bind r k)
  onward-bind at r k p f =
      gives-bind (Onward s at) (Onward s at) r k p
      (λ a m e q. gives-map (Onward s m) (Onward s at) (k a m) (f a m q.1) (λ b n w. omega arith))

  pub onward-many : {A : Type 0} (item : ℕ → ℕ → Read A) → ((j at : ℕ) → at ≤ length s → Gives (Onward s at) (item j at))
      → (n j at : ℕ) → at ≤ length s → Gives (Onward s at) (many item n j at)
  unfolding many
  onward-many item f zero j at h = (omega arith, h)
  onward-many item f (suc n) j at h =
      onward-bind at (item j at) _ (f j at h) (λ a m k.
      onward-bind m (many item n (j + 1) m) _ (onward-many item f n (j + 1) m k) (λ l e w. (omega arith, w)))

  pub onward-cell : (at : ℕ) → Gives (Onward s at) (read_cell s at)
  unfolding read_cell
  onward-cell at =
      onward-bind {B = Cell} at (u32_field s at 0 1_000_000) _ (onward-field at 4 _ _) (λ p a h.
      onward-bind {B = Cell} a (latitude_field s a) _ (onward-field a 4 _ _) (λ x b k.
      onward-bind {B = Cell} b (longitude_field s b) (λ z e. good (record { people = p; latitude = x; longitude = z }) e)
      (onward-field b 4 _ _) (λ y e w. (omega arith, w))))

  pub onward-place : (bits j at : ℕ) → at ≤ length s → Gives (Onward s at) (read_place s bits j at)
  unfolding read_place
  onward-place bits j at h =
      gives-test (Onward s at) (bit_at s bits j) _ (good gap at)
      (λ t. onward-bind at (read_cell s at) _ (onward-cell at) (λ c e w. (omega arith, w))) (omega arith, h)

  pub onward-row : (columns at : ℕ) → Gives (Onward s at) (read_row s columns at)
  unfolding read_row
  onward-row columns at =
      onward-bind at (bit_map_field s columns at) _ (onward-field at (bit_map_bytes columns) _ _)
      (λ bits e w. onward-many (read_place s at) (onward-place at) columns 0 e w)

  pub onward-rows : (columns rows at : ℕ) → at ≤ length s → Gives (Onward s at) (read_rows s columns rows at)
  onward-rows columns rows at h = onward-many (λ _ a. read_row s columns a) (λ i a k. onward-row columns a) rows 0 at h

-- ---- cells are within their limits, and each row and column has its place

gives-many : {A : Type 0} (P : A → Type 0) (item : ℕ → ℕ → Read A) → ((j at : ℕ) → Gives (λ a e. P a) (item j at))
    → (n j at : ℕ) → Gives (λ l e. (length l ≡ n) × All P l) (many item n j at)
unfolding many
gives-many P item f zero j at = (refl, tt)
gives-many P item f (suc n) j at =
    gives-bind (λ a e. P a) (λ l e. (length l ≡ suc n) × All P l) (item j at) _ (f j at) (λ a m q p.
    gives-bind (λ l e. (length l ≡ n) × All P l) (λ l e. (length l ≡ suc n) × All P l) (many item n (j + 1) m) (λ l e. good (a ∷ l) e)
    (gives-many P item f n (j + 1) m) (λ l e w h. (ap suc h.0, (p, h.1))))

gives-cell : (s : List ℕ) (at : ℕ) → Gives (λ c e. CellHolds c) (read_cell s at)
unfolding read_cell
gives-cell s at =
    gives-bind {B = Cell} _ (λ c e. CellHolds c) (u32_field s at 0 1_000_000) _ (gives-limits s at 4 0 1_000_000) (λ p a q h.
    gives-bind {B = Cell} _ (λ c e. CellHolds c) (latitude_field s a) _ (gives-field s a 4 _ _) (λ x b q k.
    gives-bind {B = Cell} _ (λ c e. CellHolds c) (longitude_field s b)
    (λ z e. good (record { people = p; latitude = x; longitude = z }) e) (gives-field s b 4 _ _)
    (λ y e q l. record { people = h.0.1; latitude = rw k.value k.limits; longitude = rw l.value l.limits })))

gives-place : (s : List ℕ) (bits j at : ℕ) → Gives (λ p e. PlaceHolds p) (read_place s bits j at)
unfolding read_place
gives-place s bits j at =
    gives-test (λ p e. PlaceHolds p) (bit_at s bits j) (bind (read_cell s at) (λ c e. good (cell c) e)) (good gap at)
    (λ t. gives-bind (λ c e. CellHolds c) (λ p e. PlaceHolds p) (read_cell s at) (λ c e. good (cell c) e)
    (gives-cell s at) (λ c e q h. h)) tt

gives_row : (s : List ℕ) (columns at : ℕ) → Gives (λ row e. RowHolds columns row) (read_row s columns at)
unfolding read_row
gives_row s columns at =
    gives-bind (λ a e. Unit {0}) (λ row e. RowHolds columns row) (bit_map_field s columns at) _ (gives-any (bit_map_field s columns at))
    (λ bits e q u. gives-many PlaceHolds (read_place s at) (gives-place s at) columns 0 e)

pub gives-rows : (s : List ℕ) (columns rows at : ℕ) → Gives (λ grid e. GridHolds columns rows grid) (read_rows s columns rows at)
gives-rows s columns rows at = gives-many (RowHolds columns) (λ _ a. read_row s columns a) (λ i a. gives_row s columns a) rows 0 at

-- ---- a head is within its limits

pub record HeadHolds (s : List ℕ) (before : ℕ) (h : Head) (start : ℕ) : Type 0 where
  pub number : Within 1 416 h.number
  pub above : before < h.number
  pub weight : Within 1 65_535 h.weight
  pub rows : Within 1 128 h.rows
  pub columns : Within 1 128 h.columns
  pub inside : start ≤ length s

gives-number : (s : List ℕ) (before at : ℕ) → Gives (λ n e. Within 1 416 n × (before < n)) (number_field s before at)
unfolding number_field
gives-number s before at =
    gives-bind _ (λ n e. Within 1 416 n × (before < n)) (u16_field s at 1 416) _ (gives-limits s at 2 1 416)
    (λ n e q h. gives-test (λ n e. Within 1 416 n × (before < n)) (ltb before n) (good n e) (bad 4) (λ t. (h.0, ltb-true before n t)) tt)

gives_size : (s : List ℕ) (at : ℕ) → Gives (λ n e. Within 1 128 n × (e ≤ length s)) (size_field s at)
unfolding size_field
gives_size s at = gives-limits s at 1 1 128

pub gives_head : (s : List ℕ) (before at : ℕ) → Gives (HeadHolds s before) (read_head s before at)
unfolding read_head
gives_head s before at =
    gives-bind _ (HeadHolds s before) (number_field s before at) _ (gives-number s before at) (λ number a q n.
    gives-bind _ (HeadHolds s before) (weight_field s a) _ (gives-limits s a 4 1 65_535) (λ weight b q w.
    gives-bind _ (HeadHolds s before) (size_field s b) _ (gives_size s b) (λ rows d q r.
    gives-bind _ (HeadHolds s before) (size_field s d)
    (λ columns e. good (record { number = number; weight = weight; rows = rows; columns = columns }) e) (gives_size s d)
    (λ columns e q k. record { number = n.0; above = n.1; weight = w.0; rows = r.0; columns = k.0; inside = k.1 }))))
