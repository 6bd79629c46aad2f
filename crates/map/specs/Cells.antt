-- Document 01, "The map": the cells of a row, which stand one after another. Assumes nothing.
use Rattle.std.specs.Prelude.{◌≡◌, ℕ, zero, suc, ◌+◌, ◌*◌, ◌<◌, Bool, true, ◌&&◌, List, [], ◌∷◌, ℤ, pos, nat_le, slice_index}
use Rattle.std.specs.Prelude.{slice_index_or}
use Rattle.lists.specs.Sums.{flag}
use Rattle.units.specs.Coordinates.{is_latitude, is_longitude}
use Rattle.map.specs.declared.Cell.{Cell}
use Rattle.map.specs.Reading.{Read, many}
use Rattle.map.specs.Format.{Place, gap, cell, number_at, signed32, bit_at, read_cell}

-- "a cell for each bit that stands": how many of the n bits from bit j on stand
unfoldable pub bits_from : List ℕ → (bits j n : ℕ) → ℕ
bits_from s bits j zero = 0
bits_from s bits j (suc n) = flag (bit_at s bits j) + bits_from s bits (j + 1) n

-- the cells of a row's places, in column order
unfoldable pub cells_of : List Place → List Cell
cells_of [] = []
cells_of (gap ∷ l) = cells_of l
cells_of (cell c ∷ l) = c ∷ cells_of l

-- "A cell has 12 bytes: people, u32; latitude, i32; longitude, i32": the fields at a position, whatever they are
unfoldable pub cell_at : List ℕ → ℕ → Cell
cell_at s at = record {
  people = number_at s at 4;
  latitude = signed32 (number_at s (at + 4) 4);
  longitude = signed32 (number_at s (at + 8) 4);
}

-- "people, 0 to 1,000,000; latitude, ±32,400,000; longitude, ±64,800,000"
unfoldable pub cell_within : Cell → Bool
cell_within c = nat_le c.people 1_000_000 && is_latitude c.latitude && is_longitude c.longitude

-- every cell is within its limits
unfoldable pub cells_within : List Cell → Bool
cells_within [] = true
cells_within (c ∷ l) = cell_within c && cells_within l

-- the n cells from a position on, whatever they are
unfoldable pub cells_from : List ℕ → (at n : ℕ) → List Cell
cells_from s at zero = []
cells_from s at (suc n) = cell_at s at ∷ cells_from s (at + 12) n

-- the n cells from a position on, read one after another
abbrev pub read_cells : List ℕ → (n at : ℕ) → Read (List Cell)
read_cells s n at = many (λ _ a. read_cell s a) n 0 at

-- the fields of the n cells from a position on stand in three lists: people, latitudes, longitudes
pub record RowTaken (s : List ℕ) (at n : ℕ) (p : List ℕ) (x y : List ℤ) : Type 0 where
  pub people : (k : ℕ) → k < n → slice_index p k ≡ (cell_at s (at + 12 * k)).people
  pub latitude : (k : ℕ) → k < n → slice_index_or x k (pos 0) ≡ (cell_at s (at + 12 * k)).latitude
  pub longitude : (k : ℕ) → k < n → slice_index_or y k (pos 0) ≡ (cell_at s (at + 12 * k)).longitude
