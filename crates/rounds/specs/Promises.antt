-- What `make` ensures of its answer, its mask and its table. Assumes nothing.
use Rattle.std.specs.Prelude.{ℕ, ◌≤◌, ◌≡◌, Bool, true, false, cond, not, ◌&&◌, List, leb, ltb, length, get_or, Result, Ok, Err}
use Rattle.lists.specs.Sums.{flag, some_below}
use Rattle.ring.specs.Ring.{Places, shown, fits}
use Rattle.rounds.specs.Footprint.{PartArea, places, value, footprint, needed}
use Rattle.rounds.specs.declared.Area.{Area}
use Rattle.rounds.specs.declared.MakeRefusal.{MakeRefusal}
use Rattle.rounds.specs.declared.MakeRefusal.TheVariants.{TableShort, Outside}

-- the partial area that the lists show
abbrev pub area_of : (rows columns weight : ℕ) → (cells people : List ℕ) → PartArea
area_of rows columns weight cells people =
    record { rows = rows; columns = columns; weight = weight; cells = shown cells; people = λ i. get_or people i 0 }

-- the partial area that an area names
abbrev pub part_of : Area → PartArea
part_of a = area_of a.grid.rows a.grid.columns a.weight a.cells.now a.people.now

-- the lists have an element for each place, whose number is none of the table's marks for none, and 0 or 1 in the mask; people and weight
-- are within the map's limits; the share is above 0 and below V of all cells, as the share of an allowed choice is
unfoldable pub in_limits : PartArea → (share : ℕ) → (mask cells people : List ℕ) → Bool
in_limits a share mask cells people =
    fits a.rows a.columns (length mask) && fits a.rows a.columns (length cells) && leb (places a) (length people)
    && leb (places a) 65535 && leb 1 a.weight && leb a.weight 65535
    && not (some_below (λ i. ltb 1 (get_or mask i 0)) (places a)) && not (some_below (λ i. ltb 1_000_000 (a.people i)) (places a))
    && ltb 0 share && ltb share (value a a.cells)

-- what is answered: nothing, or why no footprint is made
abbrev pub Answer : Type 0
Answer = Result (Unit {0}) MakeRefusal

-- "8: table too short; the count needed comes too"
abbrev pub answer_by : (needed entries : ℕ) → Answer
answer_by needed entries = cond (ltb entries needed) (Err (TableShort needed)) (Ok tt)

-- the answer, every byte of the mask, and the entries of the table that stay, from the set F that the mask shows
pub record Made (a : PartArea) (share : ℕ) (f : Places) (r : Answer) (mask after table entries : List ℕ) : Type 0 where
  pub answer : r ≡ answer_by (needed a share f) (length table)
  -- "1 in the footprint, else 0", "bytes past the area stay"; at 8 "the area's mask bytes are 0"
  pub bytes : (i : ℕ) → get_or after i 0
      ≡ cond (ltb i (places a)) (flag (not (ltb (length table) (needed a share f)) && footprint a share f i)) (get_or mask i 0)
  -- "These entries may hold anything afterwards, the others are unchanged"; at 8 all are
  pub unused : (s : ℕ) → (ltb (length table) (needed a share f) ≡ false → needed a share f ≤ s) → get_or entries s 0 ≡ get_or table s 0

-- within the limits the footprint is made, or 8; outside them nothing is touched
pub record MakeDone (a : PartArea) (share : ℕ) (r : Answer) (mask after cells people table entries : List ℕ) : Type 0 where
  pub inside : in_limits a share mask cells people ≡ true → Made a share (shown mask) r mask after table entries
  pub outside : in_limits a share mask cells people ≡ false → (r ≡ Err Outside) × (after ≡ mask) × (entries ≡ table)
