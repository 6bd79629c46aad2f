-- What each answer of the functions means, in the terms of the format. Assumes nothing.
use Rattle.std.specs.Prelude.{ℕ, ◌-◌, cond, List, [], ◌∷◌, take, drop, ℤ, ◌==◌, Option, Some, None, Result, Ok, Err, ⊤}
use Rattle.map.specs.Reading.{Read, bad, good, map_read}
use Rattle.map.specs.Format.{Place, gap, cell, Head, population}
use Rattle.map.specs.Counting.{grid_counts}
use Rattle.map.specs.Format as format
use Rattle.map.specs.declared.Fault.{Fault}
use Rattle.map.specs.declared.Fault.TheVariants.{Ends, Limit, Extra, Order, Population}
use Rattle.map.specs.declared.Cell.{Cell}
use Rattle.map.specs.declared.Area.{Area}
use Rattle.map.specs.declared.parts.CountedArea.{CountedArea}
use Rattle.map.specs.declared.head.Head as declared

-- "Refused by the input", 1 to 5
abbrev pub fault_number : Fault → ℕ
fault_number Ends = 1
fault_number Limit = 2
fault_number Extra = 3
fault_number Order = 4
fault_number Population = 5

-- ---- a whole map: 0 for accepted, else the number of its refusal

abbrev pub checked_number : Result ⊤ Fault → ℕ
checked_number (Ok x) = 0
checked_number (Err f) = fault_number f

abbrev pub number_of : {A : Type 0} → Read A → ℕ
number_of (bad f) = f
number_of (good a e) = 0

-- ---- fields, cells and places

-- what was read and the position after it, or a fault
abbrev pub read_means : {A : Type 0} → Result (A × ℕ) Fault → Read A
read_means (Ok r) = good r.0 r.1
read_means (Err f) = bad (fault_number f)

abbrev pub place_of : Option Cell → Place
place_of None = gap
place_of (Some c) = cell c

abbrev pub place_means : Result (Option Cell × ℕ) Fault → Read Place
place_means r = map_read place_of (read_means r)

-- ---- heads and areas

abbrev pub head_of : declared.Head → Head
head_of h = record { number = h.number; weight = h.weight; rows = h.rows; columns = h.columns }

-- what is handed out of an area: its head, its population and where its rows stand
abbrev pub summary : format.Area → Area
summary a = record {
  number = a.head.number;
  weight = a.head.weight;
  rows = a.head.rows;
  columns = a.head.columns;
  population = record { 0 = population a.grid };
  start = a.start;
  end = a.end;
}

-- an area with what is counted over its cells under boxes
abbrev pub counted_area : (edges : List ℤ) (widths : List ℕ) → format.Area → CountedArea
counted_area edges widths a = record { area = summary a; counts = grid_counts edges widths a.grid }

-- the same, but under boxes only if the area has the number that is sought
abbrev pub counted_for : (number : ℕ) (edges : List ℤ) (widths : List ℕ) → format.Area → CountedArea
counted_for number edges widths a = counted_area (cond (a.head.number == number) edges []) widths a

abbrev pub area_means : Result CountedArea Fault → Read CountedArea
area_means (Ok a) = good a a.area.end
area_means (Err f) = bad (fault_number f)

-- ---- "When an area is looked up by its number"

pub data Located : Type 0 where
  none : Located
  some : format.Area → Located

-- the area with a number
unfoldable pub locate : ℕ → List format.Area → Located
locate n [] = none
locate n (a ∷ l) = cond (a.head.number == n) (some a) (locate n l)

-- a map that is refused, lacks the number, or has the area, of which something is handed out
pub data SoughtOf (A : Type 0) : Type 0 where
  refused : ℕ → SoughtOf A
  lacking : SoughtOf A
  has : A → SoughtOf A

abbrev pub sought_means : {A : Type 0} → Result (Option A) Fault → SoughtOf A
sought_means (Ok None) = lacking
sought_means (Ok (Some a)) = has a
sought_means (Err f) = refused (fault_number f)

abbrev pub LookedUp : Type 0
LookedUp = SoughtOf Area

abbrev pub located : Located → LookedUp
located none = lacking
located (some a) = has (summary a)

unfoldable pub look_up : ℕ → Read (List format.Area) → LookedUp
look_up n (bad f) = refused f
look_up n (good l e) = located (locate n l)

-- the same with whatever `f` makes of the area
abbrev pub located_as : {A : Type 0} → (format.Area → A) → Located → SoughtOf A
located_as f none = lacking
located_as f (some a) = has (f a)

unfoldable pub seek : {A : Type 0} → (format.Area → A) → ℕ → Read (List format.Area) → SoughtOf A
seek f n (bad x) = refused x
seek f n (good l e) = located_as f (locate n l)

-- the bytes from `start` to before `end`
abbrev pub between : List ℕ → (start end : ℕ) → List ℕ
between s start end = take (end - start) (drop start s)

-- "the part of the map that holds that area's rows .. first bit map to last cell"
abbrev pub rows_part : List ℕ → Located → List ℕ
rows_part s none = []
rows_part s (some a) = between s a.start a.end

-- "the part is empty if the map lacks the number or is refused by 1 to 5"
unfoldable pub part_of : List ℕ → ℕ → Read (List format.Area) → List ℕ
part_of s n (bad f) = []
part_of s n (good l e) = rows_part s (locate n l)
