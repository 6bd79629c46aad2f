-- Document 01, "The map" and refusals 1 to 5: the byte format, read from a position of the map's bytes. Assumes nothing.
use Rattle.std.specs.Prelude.{ℕ, zero, suc, ◌+◌, ◌-◌, ◌*◌, ◌/◌, ◌%◌, ◌^◌, Bool, true, cond, not, ◌&&◌, List, [], ◌∷◌, length, ℤ, pos}
use Rattle.std.specs.Prelude.{negsuc, ◌==◌, nat_le, nat_lt, slice_index}
use Rattle.lists.specs.Sums.{total}
use Rattle.units.specs.Coordinates.{is_latitude, is_longitude}
use Rattle.map.specs.declared.Cell.{Cell}
use Rattle.map.specs.Reading.{Read, bad, good, bind, many}

-- ---- fields

-- "Little-endian bytes": the number in the n bytes at a position
unfoldable pub number_at : List ℕ → (at n : ℕ) → ℕ
number_at s at zero = 0
number_at s at (suc n) = slice_index s at + 256 * number_at s (at + 1) n

-- the i32 of these 32 bits: two's complement
unfoldable pub signed32 : ℕ → ℤ
signed32 v = cond (nat_lt v 2_147_483_648) (pos v) (negsuc (4_294_967_295 - v))

-- a field of n bytes. 1: the map ends before or inside a field that is due. 2: a field outside its limits
unfoldable pub field : {A : Type 0} → List ℕ → (at n : ℕ) → (value : A) → (in_limits : Bool) → Read A
field s at n v ok = cond (nat_le (at + n) (length s)) (cond ok (good v (at + n)) (bad 2)) (bad 1)

-- the limits of a field without a sign: both ends belong
abbrev pub within : ℕ → ℕ → ℕ → Bool
within low high v = nat_le low v && nat_le v high

-- a field of n bytes without a sign
abbrev pub unsigned_field : List ℕ → (at n low high : ℕ) → Read ℕ
unsigned_field s at n low high = field s at n (number_at s at n) (within low high (number_at s at n))

abbrev pub u8_field : List ℕ → (at low high : ℕ) → Read ℕ
u8_field s at low high = unsigned_field s at 1 low high

abbrev pub u16_field : List ℕ → (at low high : ℕ) → Read ℕ
u16_field s at low high = unsigned_field s at 2 low high

abbrev pub u32_field : List ℕ → (at low high : ℕ) → Read ℕ
u32_field s at low high = unsigned_field s at 4 low high

-- a field of four bytes with a sign, by the test of its limits
abbrev pub i32_field : List ℕ → (at : ℕ) → (ℤ → Bool) → Read ℤ
i32_field s at limits = field s at 4 (signed32 (number_at s at 4)) (limits (signed32 (number_at s at 4)))

-- ---- a cell

-- "latitude, i32, ±32,400,000"
abbrev pub latitude_field : List ℕ → ℕ → Read ℤ
latitude_field s at = i32_field s at is_latitude

-- "longitude, i32, ±64,800,000"
abbrev pub longitude_field : List ℕ → ℕ → Read ℤ
longitude_field s at = i32_field s at is_longitude

-- "A cell has 12 bytes: people, u32, 0 to 1,000,000; latitude; longitude"
unfoldable pub read_cell : List ℕ → ℕ → Read Cell
read_cell s at =
    bind (u32_field s at 0 1_000_000) (λ people a.
    bind (latitude_field s a) (λ latitude b.
    bind (longitude_field s b) (λ longitude e.
    good (record { people = people; latitude = latitude; longitude = longitude }) e)))

-- ---- a row

-- what stands at a place of the grid: nothing, or a cell
pub data Place : Type 0 where
  gap : Place
  cell : Cell → Place

-- bit j of the bit map that starts at a position, "column 0 being the lowest bit of the first byte"
unfoldable pub bit_at : List ℕ → (bits j : ℕ) → Bool
bit_at s bits j = slice_index s (bits + j / 8) / 2 ^ (j % 8) % 2 == 1

-- "a cell for each bit that stands": column j of the row whose bit map starts at `bits`
unfoldable pub read_place : List ℕ → (bits j at : ℕ) → Read Place
read_place s bits j at = cond (bit_at s bits j) (bind (read_cell s at) (λ c e. good (cell c) e)) (good gap at)

-- "a bit map of (columns + 7) / 8 bytes (whole division)"
abbrev pub bit_map_bytes : ℕ → ℕ
bit_map_bytes columns = (columns + 7) / 8

-- the n bits from bit j on are 0
unfoldable pub clear_from : List ℕ → (bits j n : ℕ) → Bool
clear_from s bits j zero = true
clear_from s bits j (suc n) = not (bit_at s bits j) && clear_from s bits (j + 1) n

-- "bits past the last column 0"; 2: a bit past the last column
abbrev pub bit_map_field : List ℕ → (columns at : ℕ) → Read (Unit {0})
bit_map_field s columns at =
    field s at (bit_map_bytes columns) tt (clear_from s at columns (bit_map_bytes columns * 8 - columns))

-- "for each row a bit map; then a cell for each bit that stands, in column order"
unfoldable pub read_row : List ℕ → (columns at : ℕ) → Read (List Place)
read_row s columns at = bind (bit_map_field s columns at) (λ _ e. many (read_place s at) columns 0 e)

-- the rows, top first
abbrev pub read_rows : List ℕ → (columns rows at : ℕ) → Read (List (List Place))
read_rows s columns rows at = many (λ _ a. read_row s columns a) rows 0 at

-- ---- an area

-- what stands before an area's rows
pub record Head : Type 0 where
  pub number : ℕ
  pub weight : ℕ
  pub rows : ℕ
  pub columns : ℕ

-- "Each area": its head and its grid, row by row; its rows are the bytes from `start` to before `end`
pub record Area : Type 0 where
  pub head : Head
  pub start : ℕ
  pub grid : List (List Place)
  pub end : ℕ

-- "number, u16, 1 to 416, above the one before"; 4: in 1 to 416 but not above the one before
unfoldable pub number_field : List ℕ → (before at : ℕ) → Read ℕ
number_field s before at = bind (u16_field s at 1 416) (λ n e. cond (nat_lt before n) (good n e) (bad 4))

-- "weight, u32, 1 to 65,535"
abbrev pub weight_field : List ℕ → ℕ → Read ℕ
weight_field s at = u32_field s at 1 65_535

-- "rows, u8, and columns, u8, each 1 to 128"
unfoldable pub size_field : List ℕ → ℕ → Read ℕ
size_field s at = u8_field s at 1 128

-- "Each area then has": number, weight, rows, columns
unfoldable pub read_head : List ℕ → (before at : ℕ) → Read Head
read_head s before at =
    bind (number_field s before at) (λ number a.
    bind (weight_field s a) (λ weight b.
    bind (size_field s b) (λ rows d.
    bind (size_field s d) (λ columns e.
    good (record { number = number; weight = weight; rows = rows; columns = columns }) e))))

-- the people that stand at a place
abbrev pub people_at : Place → ℕ
people_at gap = 0
people_at (cell c) = c.people

-- "An area's population, written pop, is the sum of its cells' people"
abbrev pub population : List (List Place) → ℕ
population grid = total (total people_at) grid

-- the rows after a head. 5: population 0 or above 40,000,000, found after the area's last row
unfoldable pub read_body : List ℕ → Head → (start : ℕ) → Read Area
read_body s head start =
    bind (read_rows s head.columns head.rows start) (λ grid e.
    cond (within 1 40_000_000 (population grid))
    (good (record { head = head; start = start; grid = grid; end = e }) e)
    (bad 5))

-- "Each area": its head, then its rows
unfoldable pub read_area : List ℕ → (before at : ℕ) → Read Area
read_area s before at = bind (read_head s before at) (λ head start. read_body s head start)

-- ---- the map

-- n areas, the first with a number above `before`
unfoldable pub read_areas : List ℕ → (n before at : ℕ) → Read (List Area)
read_areas s zero before at = good [] at
read_areas s (suc n) before at =
    bind (read_area s before at) (λ a e.
    bind (read_areas s n a.head.number e) (λ l e'.
    good (a ∷ l) e'))

-- n areas and then the end of the map. 3: bytes after the last area
unfoldable pub read_rest : List ℕ → (n at : ℕ) → Read (List Area)
read_rest s n at = bind (read_areas s n 0 at) (λ l e. cond (e == length s) (good l e) (bad 3))

-- "First a byte: the count of areas, 1 to 32"
unfoldable pub read_map : List ℕ → Read (List Area)
read_map s = bind (u8_field s 0 1 32) (λ n e. read_rest s n e)
