-- Laws of the loops that lay places into the three lists. Assumes nothing.
use Prim.Native.Nat.{ℕ, ◌+◌, ◌-◌, ◌*◌, ◌/◌, ◌%◌, ◌≤◌, ◌<◌}
use mathlib.Core.Path.{◌≡◌, refl, sym, ap, ◌∙◌, subst}
use mathlib.Core.List.{List, []}
use mathlib.Core.Bool.{Bool, cond}
use native.Mathlib.Omega.{arith}
use native.Mathlib.Nat.{zero-mul, add-zero, mul-add-div_right, div-eq_of_lt, mul-add-mod_self_right, mod-eq_of_lt}
use lib.Dec.{ltb}
use lib.IntN.{ℤ}
use lib.ListN.{length, get_or, set, take, drop, length-drop}
use lib.Seq.{length-take-le}
use borrow.Author.Tests.{lt-ltb, le-ltb}
use borrow.Rule.Slice.PartMut.{put_mid}
use Rattle.lists.specs.Sums.{flag}
use Rattle.lists.proofs.Tests.{takes}
use Rattle.lists.proofs.InPlace.{Rewritten, starts, turns, row-turns, row_ends, ends}
use Rattle.map.specs.Reading.{Read, good}
use Rattle.map.specs.Format.{Place, gap, people_at, bit_map_bytes, read_place, read_row, read_rows}
use Rattle.places.specs.declared.Shown.{Shown}
use Rattle.places.specs.Places.{place_of, is_cell, is_covered, IsGood, Lists, Laid, PlacesLaid, LaidOut}
use Rattle.places.specs.Rows.{Shows, PlaceShown, RowLaid}
use Rattle.places.proofs.ReadLaws.{given, row-parts, Left, left-starts, left-turns, left-ends}

-- ---- one list

-- what becomes of the number at place i: f i at the n places, else as before
abbrev put : ℕ → (ℕ → ℕ) → ℕ → ℕ → ℕ
put n f i b = cond (ltb i n) (f i) b

put_in : (n : ℕ) (f : ℕ → ℕ) (i b : ℕ) → i < n → f i ≡ put n f i b
put_in n f i b h = takes b (lt-ltb i n h)

put-past : (n : ℕ) (f : ℕ → ℕ) (i b : ℕ) → n ≤ i → put n f i b ≡ b
put-past n f i b h = ap (λ (t : Bool). cond t (f i) b) (le-ltb i n h)

-- the numbers f 0, f 1, .. are put up to place i
pub record Put (n : ℕ) (f : ℕ → ℕ) (before now : List ℕ) (i : ℕ) : Type 0 where
  pub is : Rewritten (put n f) before now i

put-starts : {n : ℕ} {f : ℕ → ℕ} {l : List ℕ} → Put n f l l 0
put-starts {n} {f} {l} = record { is = starts (put n f) l }

module _ {n : ℕ} {f : ℕ → ℕ} {before now : List ℕ} {i : ℕ} (c : Put n f before now i) where
  put-turns : {v : ℕ} → i < n → n ≤ length before → v ≡ f i → Put n f before (set now i v) (i + 1)
  put-turns h l e = record { is = turns c.is (omega arith) (e ∙ put_in n f i (get_or now i 0) h) }

  -- a row of so many columns is put into the part from place i on
  put-row : (g : ℕ → ℕ) (part : List ℕ) (columns : ℕ) → i + columns ≤ n → n ≤ length before
      → length part ≡ length (take (length now - i) (drop i now))
      → Laid columns g (take (length now - i) (drop i now)) part
      → ((j : ℕ) → j < columns → g j ≡ f (i + j))
      → Put n f before (put_mid i (length now - i) now part) (i + columns)
  put-row g part columns h l k e same = record {
    is = row-turns c.is (put columns g) part columns (omega arith) k e
        (λ j b o. sym (put_in columns g j b o) ∙ same j o ∙ put_in n f (i + j) b (omega arith))
        (put-past columns g);
  }

  put-ends : n ≤ i → Laid n f before now
  put-ends h = ends c.is n h (put-past n f)

-- ---- the three lists

-- the n places that `at` says are laid up to place i
pub record Laying (at : ℕ → Place) (n always : ℕ) (edges : List ℤ) (before now : Lists) (i : ℕ) : Type 0 where
  pub people : Put n (λ i. people_at (at i)) before.people now.people i
  pub cells : Put n (λ i. flag (is_cell (at i))) before.cells now.cells i
  pub mask : Put n (λ i. flag (is_covered always edges (at i))) before.mask now.mask i

-- each list has at least n places
pub record Room (n : ℕ) (l : Lists) : Type 0 where
  pub people : n ≤ length l.people
  pub cells : n ≤ length l.cells
  pub mask : n ≤ length l.mask

-- the parts of the lists from a place on, and the lists after parts came back
abbrev pub part_from : ℕ → Lists → Lists
part_from i l = record {
  people = take (length l.people - i) (drop i l.people);
  cells = take (length l.cells - i) (drop i l.cells);
  mask = take (length l.mask - i) (drop i l.mask);
}

abbrev pub back : ℕ → (l part : Lists) → Lists
back i l part = record {
  people = put_mid i (length l.people - i) l.people part.people;
  cells = put_mid i (length l.cells - i) l.cells part.cells;
  mask = put_mid i (length l.mask - i) l.mask part.mask;
}

pub record SameLengths (a b : Lists) : Type 0 where
  pub people : length a.people ≡ length b.people
  pub cells : length a.cells ≡ length b.cells
  pub mask : length a.mask ≡ length b.mask

-- a part has what is left of the list
part-long : (i columns : ℕ) (l : List ℕ) → i + columns ≤ length l → columns ≤ length (take (length l - i) (drop i l))
part-long i columns l h =
    let k = length-take-le (length l - i) (drop i l) (omega (arith, length-drop i l)) in
    omega arith

lay-starts : {at : ℕ → Place} {n always : ℕ} {edges : List ℤ} {l : Lists} → Laying at n always edges l l 0
lay-starts = record { people = put-starts; cells = put-starts; mask = put-starts }

module _ {at : ℕ → Place} {n always : ℕ} {edges : List ℤ} {before now : Lists} {i : ℕ} (c : Laying at n always edges before now i) where
  -- what is shown of place i is laid
  lay-turns : {x : Shown} → i < n → Room n before → Shows (at i) always edges x
      → Laying at n always edges before
      (record { people = set now.people i x.people; cells = set now.cells i x.cell; mask = set now.mask i x.covered })
      (i + 1)
  lay-turns h l e = record {
    people = put-turns c.people h l.people e.people;
    cells = put-turns c.cells h l.cells e.cell;
    mask = put-turns c.mask h l.mask e.covered;
  }

  -- a row of so many columns is laid into the parts from place i on
  lay-row : {row : ℕ → Place} (part : Lists) (columns : ℕ) → i + columns ≤ n → Room n before → SameLengths part (part_from i now)
      → PlacesLaid row columns always edges (part_from i now) part → ((j : ℕ) → j < columns → row j ≡ at (i + j))
      → Laying at n always edges before (back i now part) (i + columns)
  lay-row part columns h l k e same = record {
    people = put-row c.people _ part.people columns h l.people k.people e.people (λ j o. ap people_at (same j o));
    cells = put-row c.cells _ part.cells columns h l.cells k.cells e.cells
        (λ j o. ap (λ (p : Place). flag (is_cell p)) (same j o));
    mask = put-row c.mask _ part.mask columns h l.mask k.mask e.mask
        (λ j o. ap (λ (p : Place). flag (is_covered always edges p)) (same j o));
  }

  lay-ends : n ≤ i → PlacesLaid at n always edges before now
  lay-ends h = record {
    people = put-ends c.people h;
    cells = put-ends c.cells h;
    mask = put-ends c.mask h;
  }

-- ---- the loop over a row's places

-- the invariant at column j: the places up to it are laid, and the next is read from `next`
pub record LayingRow (s : List ℕ) (columns start always : ℕ) (edges : List ℤ) (before now : Lists) (next j : ℕ) : Type 0 where
  pub row : List Place
  pub end : ℕ
  pub reads : read_row s columns start ≡ good row end
  pub walk : Left (read_place s start) columns row end j next
  pub laid : Laying (λ j. get_or row j gap) columns always edges before now j

-- a row's bit map is inside the map
pub bits_inside : (s : List ℕ) (columns at : ℕ) → IsGood (read_row s columns at) → at + bit_map_bytes columns ≤ length s
bits_inside s columns at h = (row-parts s columns at (given (read_row s columns at) h).is).0

pub row-starts : {s : List ℕ} {columns start always : ℕ} {edges : List ℤ} {l : Lists} → IsGood (read_row s columns start)
    → LayingRow s columns start always edges l l (start + bit_map_bytes columns) 0
row-starts {s} {columns} {start} h =
    let g = given (read_row s columns start) h in
    record {
      row = g.value;
      end = g.next;
      reads = g.is;
      walk = left-starts (read_place s start) columns (start + bit_map_bytes columns) (row-parts s columns start g.is).1;
      laid = lay-starts;
    }

module _
    {s : List ℕ}
    {columns start always : ℕ}
    {edges : List ℤ}
    {before now : Lists}
    {next j : ℕ}
    (c : LayingRow s columns start always edges before now next j)
  where
    pub place-turns : (x : Shown) (after : ℕ) → j < columns → Room columns before
        → PlaceShown (read_place s start j next) always edges (x, after)
        → LayingRow s columns start always edges before
        (record { people = set now.people j x.people; cells = set now.cells j x.cell; mask = set now.mask j x.covered })
        after (j + 1)
    place-turns x after h l e =
        let t = left-turns c.walk gap h in
        let shown = subst (λ (r : Read Place). PlaceShown r always edges (x, after)) t.is e in
        record {
          row = c.row;
          end = c.end;
          reads = c.reads;
          walk = subst (Left (read_place s start) columns c.row c.end (j + 1)) (sym shown.1) t.after;
          laid = lay-turns c.laid h l shown.0;
        }

    pub place-ends : columns ≤ j → RowLaid (read_row s columns start) columns always edges before now next
    place-ends h =
        subst (λ (r : Read (List Place)). RowLaid r columns always edges before now next) (sym c.reads)
        (lay-ends c.laid h, left-ends c.walk h)

-- ---- the loop over the rows

-- column j of row r is the place with the number r * columns + j
pub place-in-row : (grid : List (List Place)) (r columns at j : ℕ) → at ≡ r * columns → j < columns
    → get_or (get_or grid r []) j gap ≡ place_of grid columns (at + j)
place-in-row grid r columns at j e h =
    let d : (at + j) / columns ≡ r =
    rw e (mul-add-div_right {m = columns} (omega arith) r j ∙ ap (λ (k : ℕ). r + k) (div-eq_of_lt h) ∙ add-zero r) in
    let m : (at + j) % columns ≡ j = rw e (mul-add-mod_self_right r columns j ∙ mod-eq_of_lt h) in
    (λ i. get_or (get_or grid (sym d i) []) (sym m i) gap)

-- the invariant at row r, whose first place has the number `at`
pub record LayingRows (s : List ℕ) (columns rows start always : ℕ) (edges : List ℤ) (before now : Lists) (next r : ℕ) : Type 0 where
  pub grid : List (List Place)
  pub end : ℕ
  pub reads : read_rows s columns rows start ≡ good grid end
  pub walk : Left (λ (_ a : ℕ). read_row s columns a) rows grid end r next
  pub laid : Laying (place_of grid columns) (rows * columns) always edges before now (r * columns)

pub rows_start : {s : List ℕ} {columns rows start always : ℕ} {edges : List ℤ} {l : Lists} → IsGood (read_rows s columns rows start)
    → LayingRows s columns rows start always edges l l start 0
rows_start {s} {columns} {rows} {start} h =
    let g = given (read_rows s columns rows start) h in
    record {
      grid = g.value;
      end = g.next;
      reads = g.is;
      walk = left-starts (λ (_ a : ℕ). read_row s columns a) rows start g.is;
      laid = rw (zero-mul columns) lay-starts;
    }

module _
    {s : List ℕ}
    {columns rows start always : ℕ}
    {edges : List ℤ}
    {before now : Lists}
    {next r : ℕ}
    (c : LayingRows s columns rows start always edges before now next r)
  where
    -- the row's first place
    abbrev at : ℕ
    at = r * columns

    -- the row is read, and there is room for it
    pub row-good : r < rows → IsGood (read_row s columns next)
    row-good h = subst IsGood (sym (left-turns c.walk [] h).is) tt

    pub row_fits : r < rows → at + columns ≤ rows * columns
    row_fits h = (row_ends r rows columns at refl h).0

    pub row_room : r < rows → Room (rows * columns) before → Room (at + columns) now
    row_room h l =
        let f = row_fits h in
        record {
          people = omega (arith, c.laid.people.is.kept, l.people);
          cells = omega (arith, c.laid.cells.is.kept, l.cells);
          mask = omega (arith, c.laid.mask.is.kept, l.mask);
        }

    pub part_room : r < rows → Room (rows * columns) before → Room columns (part_from at now)
    part_room h l =
        let m = row_room h l in
        record {
          people = part-long at columns now.people m.people;
          cells = part-long at columns now.cells m.cells;
          mask = part-long at columns now.mask m.mask;
        }

    pub rows-turn : (part : Lists) {after : ℕ} → r < rows → Room (rows * columns) before → SameLengths part (part_from at now)
        → RowLaid (read_row s columns next) columns always edges (part_from at now) part after
        → LayingRows s columns rows start always edges before (back at now part) after (r + 1)
    rows-turn part {after} h l k e =
        let t = left-turns c.walk [] h in
        let laid = subst (λ (x : Read (List Place)). RowLaid x columns always edges (part_from at now) part after) t.is e in
        record {
          grid = c.grid;
          end = c.end;
          reads = c.reads;
          walk = subst (Left (λ (_ a : ℕ). read_row s columns a) rows c.grid c.end (r + 1)) (sym laid.1) t.after;
          laid = rw (row_ends r rows columns at refl h).1 at
              (lay-row c.laid part columns (row_fits h) l k laid.0 (λ j o. place-in-row c.grid r columns at j refl o));
        }

    pub rows_end : rows ≤ r → LaidOut (read_rows s columns rows start) columns rows always edges before now
    rows_end h =
        let all : r ≡ rows = omega (arith, c.walk.inside) in
        let e : at ≡ rows * columns = ap (λ (k : ℕ). k * columns) all in
        subst (λ (x : Read (List (List Place))). LaidOut x columns rows always edges before now) (sym c.reads)
        (lay-ends c.laid (omega arith))
