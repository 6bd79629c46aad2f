-- Laws of a row's cells: they are counted by the bits that stand, and read one after another. Assumes nothing.
use Rattle.std.proofs.Common.{◌≡◌, ℕ, zero, suc, ◌+◌, ◌-◌, ◌*◌, ◌/◌, ◌%◌, ◌^◌, ◌<◌, ◌≤◌, Bool, true, false, cond, not, ◌&&◌, eqb, leb}
use Rattle.std.proofs.Common.{List, [], ◌∷◌, ◌++◌, length, get_or, ℤ, sym, refl, ap, ◌∙◌, add-zero, pow-suc, zero-add, div-one, add-one}
use Rattle.std.proofs.Common.{arith, eqb-true, le-leb, leb-true}
use mathlib.Core.Bool.{and-true, and_assoc}
use native.Mathlib.Nat.{div-eq_of_lt, div-div-eq-div-mul}
use lib.Count.{ones, ones_step}
use borrow.Author.Tests.{eqb-false}
use Rattle.lists.specs.Sums.{total, flag, sum_below, sum_to}
use Rattle.lists.proofs.Tests.{by-test, not-both, takes, leaves, first_of, second-of}
use Rattle.lists.proofs.SumLaws.{total-append}
use Rattle.units.specs.Coordinates.{is_latitude, is_longitude}
use Rattle.map.specs.declared.Cell.{Cell}
use Rattle.map.specs.Reading.{Read, bad, good, bind, many, map_read}
use Rattle.map.specs.Format.{number_at, signed32, field, within, read_cell}
use Rattle.map.specs.Format.{Place, gap, cell, bit_at, read_place, clear_from, bit_map_bytes, read_row}
use Rattle.map.specs.Cells.{bits_from, cells_of, cell_at, cell_within, cells_within, cells_from, read_cells}
use Rattle.map.specs.Accepted.{CellHolds}

-- ---- bits that stand

module _ (s : List ℕ) (bits : ℕ) where
  -- the bits from j on are the first m and the n after them
  pub bits-add : (j m n : ℕ) → bits_from s bits j (m + n) ≡ bits_from s bits j m + bits_from s bits (j + m) n
  unfolding bits_from
  bits-add j zero n = simp (zero-add, add-zero)
  bits-add j (suc m) n =
      let e : suc m + n ≡ suc (m + n) = omega arith in
      let next : j + 1 + m ≡ j + suc m = omega arith in
      let h = rw next at (bits-add (j + 1) m n) in
      rw e (omega arith)

  -- of n bits at most n stand
  pub bits_most : (j n : ℕ) → bits_from s bits j n ≤ n
  unfolding bits_from
  bits_most j zero = omega arith
  bits_most j (suc n) =
      let h = bits_most (j + 1) n in
      by-test (bit_at s bits j) (λ t. rw t (omega arith)) (λ t. rw t (omega arith))

  -- of clear bits none stands
  pub bits-clear : (j n : ℕ) → clear_from s bits j n ≡ true → bits_from s bits j n ≡ 0
  unfolding bits_from clear_from
  bits-clear j zero h = refl
  bits-clear j (suc n) h =
      by-test (bit_at s bits j)
      (λ t. not-both (first_of (not (bit_at s bits j)) (clear_from s bits (j + 1) n) h) (ap not t))
      (λ t. rw (t, bits-clear (j + 1) n (second-of (not (bit_at s bits j)) (clear_from s bits (j + 1) n) h)))

  -- where the bits past the last column are clear, the bytes of a bit map have as many bits as the row has cells
  pub bits-row : (columns : ℕ) → clear_from s bits columns (bit_map_bytes columns * 8 - columns) ≡ true
      → bits_from s bits 0 (bit_map_bytes columns * 8) ≡ bits_from s bits 0 columns
  bits-row columns h =
      let past = bits-clear columns (bit_map_bytes columns * 8 - columns) h in
      let e : columns + (bit_map_bytes columns * 8 - columns) ≡ bit_map_bytes columns * 8 = omega arith in
      let z : 0 + columns ≡ columns = omega arith in
      let split = rw z at (rw e at (bits-add 0 columns (bit_map_bytes columns * 8 - columns))) in
      omega arith

-- ---- the bits of a byte

flag-odd : (x : ℕ) → flag (eqb (x % 2) 1) ≡ x % 2
flag-odd x = by-test (eqb (x % 2) 1)
    (λ t. let o = eqb-true (x % 2) 1 t in rw t (sym o))
    (λ t. let o = eqb-false (x % 2) 1 t in rw t (omega arith))

ones_none : ones 0 ≡ 0
unfolding ones
ones_none = refl

-- the bits from bit i of byte k on
byte-rest : (s : List ℕ) (bits k d i : ℕ) → i + d ≡ 8 → get_or s (bits + k) 0 < 256
    → bits_from s bits (k * 8 + i) d ≡ ones (get_or s (bits + k) 0 / 2 ^ i)
unfolding bits_from bit_at
byte-rest s bits k zero i e h =
    let all : i ≡ 8 = omega arith in
    rw all (sym (ap ones (div-eq_of_lt h) ∙ ones_none))
byte-rest s bits k (suc d) i e h =
    let b = get_or s (bits + k) 0 in
    let q : (k * 8 + i) / 8 ≡ k = omega arith in
    let r : (k * 8 + i) % 8 ≡ i = omega arith in
    let next : k * 8 + i + 1 ≡ k * 8 + (i + 1) = omega arith in
    let half : b / 2 ^ i / 2 ≡ b / 2 ^ (i + 1) = div-div-eq-div-mul b (2 ^ i) 2 ∙ ap (λ (m : ℕ). b / m) (rw add-one (sym (pow-suc 2 i))) in
    let first : flag (bit_at s bits (k * 8 + i)) ≡ b / 2 ^ i % 2 = rw (q, r) (flag-odd (b / 2 ^ i)) in
    let rest : bits_from s bits (k * 8 + i + 1) d ≡ ones (b / 2 ^ i / 2) = rw (next, half) (byte-rest s bits k d (i + 1) (omega arith) h) in
    (λ j. first j + rest j) ∙ sym (ones_step (b / 2 ^ i))

-- the bits of one byte more
pub bits-next : (s : List ℕ) (bits k : ℕ) → get_or s (bits + k) 0 < 256
    → bits_from s bits 0 ((k + 1) * 8) ≡ bits_from s bits 0 (k * 8) + ones (get_or s (bits + k) 0)
bits-next s bits k h =
    let e : (k + 1) * 8 ≡ k * 8 + 8 = omega arith in
    let z : 0 + k * 8 ≡ k * 8 + 0 = omega arith in
    rw (e, bits-add s bits 0 (k * 8) 8, z)
    (ap (λ (m : ℕ). bits_from s bits 0 (k * 8) + m) (byte-rest s bits k 8 0 refl h ∙ ap ones (div-one (get_or s (bits + k) 0))))

-- ---- the cells of a row's places

-- a sum over places that counts nothing at a gap is the sum over the cells
pub cells-total : (g : Place → ℕ) (f : Cell → ℕ) → g gap ≡ 0 → ((c : Cell) → g (cell c) ≡ f c)
    → (row : List Place) → total g row ≡ total f (cells_of row)
unfolding cells_of
cells-total g f z e [] = refl
cells-total g f z e (gap ∷ l) = rw (z, zero-add) (cells-total g f z e l)
cells-total g f z e (cell c ∷ l) = λ i. e c i + cells-total g f z e l i

-- what is read after a gap, and after a cell
none_kept : (r : Read (List Place)) → map_read cells_of (bind r (λ l e. good (gap ∷ l) e)) ≡ map_read cells_of r
unfolding cells_of
none_kept (bad x) = refl
none_kept (good l e) = refl

one_kept : (c : Cell) (r : Read (List Place))
    → map_read cells_of (bind r (λ l e. good (cell c ∷ l) e)) ≡ bind (map_read cells_of r) (λ l e. good (c ∷ l) e)
unfolding cells_of
one_kept c (bad x) = refl
one_kept c (good l e) = refl

module _ (s : List ℕ) (bits : ℕ) where
  -- the places of a row are read as its cells are, faults included
  pub cells-read : (m j i at : ℕ)
      → map_read cells_of (many (read_place s bits) m j at) ≡ many (λ _ a. read_cell s a) (bits_from s bits j m) i at
  unfolding many bits_from cells_of read_place
  cells-read zero j i at = refl
  cells-read (suc m) j i at = by-test (bit_at s bits j)
      (λ t.
      let e : 1 + bits_from s bits (j + 1) m ≡ suc (bits_from s bits (j + 1) m) = omega arith in
      rw (t, e) (there (λ e. cells-read m (j + 1) (i + 1) e) (read_cell s at)))
      (λ t. rw (t, zero-add) (none_kept (many (read_place s bits) m (j + 1) at) ∙ cells-read m (j + 1) i at))
    where
      rest : ℕ → Read (List Cell)
      rest e = many (λ _ a. read_cell s a) (bits_from s bits (j + 1) m) (i + 1) e

      there : ((e : ℕ) → map_read cells_of (many (read_place s bits) m (j + 1) e) ≡ rest e) → (r : Read Cell)
          → map_read cells_of
          (bind (bind r (λ c e. good (cell c) e)) (λ a e. bind (many (read_place s bits) m (j + 1) e) (λ l n. good (a ∷ l) n)))
          ≡ bind r (λ c e. bind (rest e) (λ l n. good (c ∷ l) n))
      there h (bad x) = refl
      there h (good c e) =
          one_kept c (many (read_place s bits) m (j + 1) e) ∙ ap (λ (r : Read (List Cell)). bind r (λ l n. good (c ∷ l) n)) (h e)

-- ---- cells that stand one after another

module _ (s : List ℕ) where
  pub cells-length : (n at : ℕ) → length (cells_from s at n) ≡ n
  unfolding cells_from
  cells-length zero at = refl
  cells-length (suc n) at = ap suc (cells-length n (at + 12))

  -- one cell more
  pub cells-next : (n at : ℕ) → cells_from s at (suc n) ≡ cells_from s at n ++ (cell_at s (at + 12 * n) ∷ [])
  unfolding cells_from
  cells-next zero at = simp add-zero
  cells-next (suc n) at =
      let e : at + 12 + 12 * n ≡ at + 12 * suc n = omega arith in
      ap (λ (l : List Cell). cell_at s at ∷ l) (rw e at (cells-next n (at + 12)))

  pub total-next : (f : Cell → ℕ) (n at : ℕ)
      → total f (cells_from s at (suc n)) ≡ total f (cells_from s at n) + f (cell_at s (at + 12 * n))
  total-next f n at =
      ap (total f) (cells-next n at) ∙ total-append f (cells_from s at n) (cell_at s (at + 12 * n) ∷ []) ∙ omega arith

  -- a sum over them, by their places in the row
  pub cells-sum : (f : Cell → ℕ) (n at : ℕ) → total f (cells_from s at n) ≡ sum_to (λ k. f (cell_at s (at + 12 * k))) n
  unfolding cells_from sum_below
  cells-sum f zero at = refl
  cells-sum f (suc n) at = let h = cells-sum f n at in omega (arith, total-next f n at)

-- ---- cells within their limits

-- one cell more
pub within-next : (l : List Cell) (c : Cell) → cells_within (l ++ (c ∷ [])) ≡ cells_within l && cell_within c
unfolding cells_within
within-next [] c = and-true (cell_within c)
within-next (a ∷ l) c =
    ap (λ (b : Bool). cell_within a && b) (within-next l c) ∙ sym (and_assoc (cell_within a) (cells_within l) (cell_within c))

pub within-holds : (c : Cell) → cell_within c ≡ true → CellHolds c
unfolding cell_within
within-holds c h =
    let p = leb c.people 1_000_000 in
    let x = is_latitude c.latitude in
    let y = is_longitude c.longitude in
    let two = first_of (p && x) y h in
    record {
      people = leb-true c.people 1_000_000 (first_of p x two);
      latitude = second-of p x two;
      longitude = second-of (p && x) y h;
    }

-- the people of cells within their limits
pub within-people : (l : List Cell) → cells_within l ≡ true → total (λ c. c.people) l ≤ 1_000_000 * length l
unfolding cells_within
within-people [] h = omega arith
within-people (c ∷ l) h =
    let here = (within-holds c (first_of (cell_within c) (cells_within l) h)).people in
    let more = within-people l (second-of (cell_within c) (cells_within l) h) in
    omega arith

-- ---- cells that have room

-- a field that has room, by its limits
field_room : {A : Type 0} (s : List ℕ) (at n : ℕ) (v : A) (ok : Bool) → at + n ≤ length s
    → field s at n v ok ≡ cond ok (good v (at + n)) (bad 2)
unfolding field
field_room s at n v ok h = sym (takes (bad 1) (le-leb (at + n) (length s) h))

limited : {A B : Type 0} (t : Bool) (v : A) (e : ℕ) (k : A → ℕ → Read B)
    → bind (cond t (good v e) (bad 2)) k ≡ cond t (k v e) (bad 2)
limited true v e k = refl
limited false v e k = refl

nested : {A : Type 0} (a b : Bool) (r : Read A) → cond a (cond b r (bad 2)) (bad 2) ≡ cond (a && b) r (bad 2)
nested true b r = refl
nested false b r = refl

-- a field that has room, and what follows it
field-then : {A B : Type 0} (s : List ℕ) (at n : ℕ) (v : A) (ok : Bool) (k : A → ℕ → Read B) → at + n ≤ length s
    → bind (field s at n v ok) k ≡ cond ok (k v (at + n)) (bad 2)
field-then {A} s at n v ok k h = ap (λ (r : Read A). bind r k) (field_room s at n v ok h) ∙ limited ok v (at + n) k

module _ (s : List ℕ) where
  -- a cell that has room is read if it is within its limits
  pub cell-read : (at : ℕ) → at + 12 ≤ length s
      → read_cell s at ≡ cond (cell_within (cell_at s at)) (good (cell_at s at) (at + 12)) (bad 2)
  unfolding read_cell cell_within cell_at
  cell-read at h =
      let p = number_at s at 4 in
      let x = signed32 (number_at s (at + 4) 4) in
      let y = signed32 (number_at s (at + 8) 4) in
      let e : at + 4 + 4 ≡ at + 8 = omega arith in
      let end : at + 8 + 4 ≡ at + 12 = omega arith in
      let people : within 0 1_000_000 p ≡ leb p 1_000_000 = ap (λ (b : Bool). b && leb p 1_000_000) (le-leb 0 p (omega arith)) in
      let last : ℤ → ℕ → Read Cell = λ z m. good (record { people = p; latitude = x; longitude = z }) m in
      field-then {B = Cell} s at 4 p (within 0 1_000_000 p) _ (omega arith) ∙ rw people
      (ap (λ (r : Read Cell). cond (leb p 1_000_000) r (bad 2))
      (field-then {B = Cell} s (at + 4) 4 x (is_latitude x) _ (omega arith) ∙ rw e
      (ap (λ (r : Read Cell). cond (is_latitude x) r (bad 2)) (rw end at (field-then s (at + 8) 4 y (is_longitude y) last (omega arith)))))
      ∙ nested (leb p 1_000_000) (is_latitude x) _) ∙ nested (leb p 1_000_000 && is_latitude x) (is_longitude y) _

  -- cells that have room are read if each is within its limits
  pub cells-room : (n i at : ℕ) → at + 12 * n ≤ length s
      → many (λ _ a. read_cell s a) n i at ≡ cond (cells_within (cells_from s at n)) (good (cells_from s at n) (at + 12 * n)) (bad 2)
  unfolding many cells_from cells_within
  cells-room zero i at h = ap (λ (e : ℕ). good [] e) (sym (add-zero at))
  cells-room (suc n) i at h =
      let e : at + 12 + 12 * n ≡ at + 12 * suc n = omega arith in
      let c = cell_at s at in
      let rest = cells_from s (at + 12) n in
      let after : Cell → ℕ → Read (List Cell) = λ a m. bind (many (λ _ b. read_cell s b) n (i + 1) m) (λ l m'. good (a ∷ l) m') in
      ap (λ (r : Read Cell). bind r after) (cell-read at (omega arith))
      ∙ limited (cell_within c) c (at + 12) after
      ∙ ap (λ (r : Read (List Cell)). cond (cell_within c) r (bad 2))
      (ap (λ (r : Read (List Cell)). bind r (λ l m. good (c ∷ l) m)) (rw e at (cells-room n (i + 1) (at + 12) (omega arith)))
      ∙ limited (cells_within rest) rest (at + 12 * suc n) _)
      ∙ nested (cell_within c) (cells_within rest) _

  pub cells-fine : (n at : ℕ) → at + 12 * n ≤ length s → cells_within (cells_from s at n) ≡ true
      → read_cells s n at ≡ good (cells_from s at n) (at + 12 * n)
  cells-fine n at h t = cells-room n 0 at h ∙ sym (takes (bad 2) t)

  pub cells-past : (n at : ℕ) → at + 12 * n ≤ length s → cells_within (cells_from s at n) ≡ false → read_cells s n at ≡ bad 2
  cells-past n at h t = cells-room n 0 at h ∙ sym (leaves (good (cells_from s at n) (at + 12 * n)) t)

-- ---- a row

module _ (s : List ℕ) (columns at : ℕ) where
  -- the bits past the last column are clear
  abbrev pub past_clear : Bool
  past_clear = clear_from s at columns (bit_map_bytes columns * 8 - columns)

  -- how many cells the row has
  abbrev pub cell_count : ℕ
  cell_count = bits_from s at 0 (bit_map_bytes columns * 8)

  -- a bit map that has room and whose bits past the last column are clear: the row's cells follow it
  pub row-cells : at + bit_map_bytes columns ≤ length s → past_clear ≡ true
      → map_read cells_of (read_row s columns at) ≡ read_cells s cell_count (at + bit_map_bytes columns)
  unfolding read_row
  row-cells h t =
      let start = at + bit_map_bytes columns in
      ap (map_read cells_of)
      (field-then s at (bit_map_bytes columns) tt past_clear (λ _ e. many (read_place s at) columns 0 e) h
      ∙ sym (takes (bad 2) t))
      ∙ cells-read s at columns 0 0 start
      ∙ ap (λ (n : ℕ). read_cells s n start) (sym (bits-row s at columns t))
