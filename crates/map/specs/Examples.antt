-- The definitions evaluated on small maps. A wrong row is refused. Assumes nothing.
use Rattle.std.specs.Prelude.{◌≡◌, ℕ, zero, suc, ◌-◌, ◌/◌, ◌%◌, Bool, true, false, ◌&&◌, List, [], ◌∷◌, ◌++◌, ℤ, pos, negsuc, ◌==◌, refl}
use Rattle.map.specs.Reading.{Read, bad, good, many}
use Rattle.map.specs.Format.{
  number_at,
  signed32,
  field,
  read_cell,
  bit_at,
  read_place,
  clear_from,
  read_row,
  number_field,
  size_field,
  read_head,
  read_body,
  read_area,
  read_areas,
  read_rest,
  read_map,
  Area,
}
use Rattle.lists.specs.Sums.{count, sum_below}
use Rattle.boxes.specs.Boxes.{boxes_over, width_over}
use Rattle.map.specs.Counting.{boxed_mhz_pops, boxed_cells, grid_counts}
use Rattle.map.specs.Answers.{number_of, locate, part_of}

-- ---- bytes

abbrev u16 : ℕ → List ℕ
u16 n = n % 256 ∷ n / 256 ∷ []

abbrev u32 : ℕ → List ℕ
u32 n = n % 256 ∷ n / 256 % 256 ∷ n / 65_536 % 256 ∷ n / 16_777_216 ∷ []

-- the u32 with the bits of the i32 -1 - n
abbrev below : ℕ → List ℕ
below n = u32 (4_294_967_295 - n)

abbrev head : (number weight rows columns : ℕ) → List ℕ
head number weight rows columns = u16 number ++ (u32 weight ++ (rows ∷ columns ∷ []))

abbrev at : (people : ℕ) → (latitude longitude : List ℕ) → List ℕ
at people latitude longitude = u32 people ++ (latitude ++ longitude)

-- a cell on the equator, so many hundredths of an arc second east
abbrev cell_of : (people longitude : ℕ) → List ℕ
cell_of people longitude = at people (u32 0) (u32 longitude)

abbrev cells : (n people : ℕ) → List ℕ
cells zero people = []
cells (suc n) people = cell_of people 0 ++ cells n people

-- an area of one row and one column
abbrev small : (number weight : ℕ) → List ℕ
small number weight = head number weight 1 1 ++ (1 ∷ cell_of 3 0)

abbrev one : List ℕ → List ℕ
one cell = (1 ∷ head 5 1 1 1) ++ (1 ∷ cell)

-- area 5 has cells at columns 0 and 2 of its first row and at column 1 of its second; area 7 has one at column 8
abbrev first_part : List ℕ
first_part = (5 ∷ (cell_of 10 0 ++ cell_of 0 2)) ++ (2 ∷ at 7 (below 0) (below 99))

abbrev second_part : List ℕ
second_part = 0 ∷ 1 ∷ cell_of 4 8

abbrev gaps : List ℕ
gaps = (2 ∷ head 5 3 2 3) ++ (first_part ++ (head 7 65_535 1 9 ++ second_part))

-- the row of holdings 10 to 12
abbrev row : List ℕ
row = (1 ∷ head 5 1 1 5) ++ (31 ∷ (cell_of 5 0 ++ (cell_of 0 1 ++ (cell_of 4 2 ++ (cell_of 3 3 ++ cell_of 8 4)))))

-- a row of more than 40 columns, all with a cell
abbrev crowd : ℕ → ℕ → List ℕ
crowd columns last = (1 ∷ head 5 1 1 columns) ++ ((255 ∷ 255 ∷ 255 ∷ 255 ∷ 255 ∷ last ∷ []) ++ cells columns 1_000_000)

-- ---- 0 for accepted, else the refusal's number

pub record Checks : Type 0 where
  pub bytes : List ℕ
  pub number : ℕ

abbrev checks : List ℕ → ℕ → Checks
checks bytes number = record { bytes = bytes; number = number }

abbrev table : List Checks
table =
    checks gaps 0 ∷
    checks row 0 ∷
    -- 1: the map ends before or inside a field
    checks [] 1 ∷
    checks (2 ∷ small 5 1) 1 ∷
    checks (1 ∷ 5 ∷ []) 1 ∷
    checks ((1 ∷ head 5 1 1 9) ++ (0 ∷ [])) 1 ∷
    checks (one (at 3 (u32 0) (0 ∷ 0 ∷ 0 ∷ []))) 1 ∷
    -- 2: the limits of each field, and one past them
    checks (0 ∷ []) 2 ∷
    checks (33 ∷ small 5 1) 2 ∷
    checks (1 ∷ small 0 1) 2 ∷
    checks (1 ∷ small 1 1) 0 ∷
    checks (1 ∷ small 416 1) 0 ∷
    checks (1 ∷ small 417 1) 2 ∷
    checks (1 ∷ small 5 0) 2 ∷
    checks (1 ∷ small 5 65_535) 0 ∷
    checks (1 ∷ small 5 65_536) 2 ∷
    checks ((1 ∷ head 5 1 0 1) ++ (1 ∷ cell_of 3 0)) 2 ∷
    checks ((1 ∷ head 5 1 129 1) ++ (1 ∷ cell_of 3 0)) 2 ∷
    checks ((1 ∷ head 5 1 1 0) ++ (1 ∷ cell_of 3 0)) 2 ∷
    checks ((1 ∷ head 5 1 1 129) ++ (1 ∷ cell_of 3 0)) 2 ∷
    checks (one (cell_of 1_000_000 0)) 0 ∷
    checks (one (cell_of 1_000_001 0)) 2 ∷
    checks (one (at 3 (u32 32_400_000) (u32 64_800_000))) 0 ∷
    checks (one (at 3 (below 32_399_999) (below 64_799_999))) 0 ∷
    checks (one (at 3 (u32 32_400_001) (u32 0))) 2 ∷
    checks (one (at 3 (below 32_400_000) (u32 0))) 2 ∷
    checks (one (at 3 (u32 0) (u32 64_800_001))) 2 ∷
    checks (one (at 3 (u32 0) (below 64_800_000))) 2 ∷
    -- 2: a bit past the last column
    checks ((1 ∷ head 5 1 1 1) ++ (3 ∷ cell_of 3 0)) 2 ∷
    checks ((1 ∷ head 5 1 1 9) ++ (0 ∷ 129 ∷ cell_of 3 0)) 2 ∷
    -- 3: bytes after the last area
    checks (gaps ++ (0 ∷ [])) 3 ∷
    -- 4: a number not above the one before
    checks (2 ∷ (small 5 1 ++ small 5 1)) 4 ∷
    checks (2 ∷ (small 5 1 ++ small 4 1)) 4 ∷
    checks (2 ∷ (small 5 1 ++ small 6 1)) 0 ∷
    -- 5: the population
    checks (one (cell_of 0 0)) 5 ∷
    checks ((1 ∷ head 5 1 2 8) ++ (0 ∷ 0 ∷ [])) 5 ∷
    checks (crowd 41 1) 5 ∷
    checks ((1 ∷ head 5 1 1 40) ++ ((255 ∷ 255 ∷ 255 ∷ 255 ∷ 255 ∷ []) ++ cells 40 1_000_000)) 0 ∷
    -- two faults: the first in byte order counts
    checks (one (u32 1_000_001 ++ (0 ∷ 0 ∷ []))) 2 ∷
    checks (2 ∷ (small 5 1 ++ small 5 0)) 4 ∷
    checks (2 ∷ (small 5 1 ++ small 0 0)) 2 ∷
    checks (2 ∷ (small 5 0 ++ small 5 1)) 2 ∷
    checks (one (cell_of 0 0) ++ (0 ∷ [])) 5 ∷
    checks ((2 ∷ head 5 1 1 1) ++ (1 ∷ cell_of 0 0)) 5 ∷
    checks (1 ∷ (u16 5 ++ (u32 0 ++ []))) 2 ∷
    checks ((1 ∷ head 5 1 1 1) ++ (3 ∷ [])) 2 ∷
    []

abbrev all_right : List Checks → Bool
all_right [] = true
all_right (r ∷ rs) = number_of (read_map r.bytes) == r.number && all_right rs

checks-right : all_right table ≡ true
unfolding many number_at signed32 field read_cell bit_at read_place clear_from read_row
    number_field size_field read_head read_body read_area read_areas read_rest read_map
checks-right = refl

-- ---- the part that is handed out

abbrev same : List ℕ → List ℕ → Bool
same [] [] = true
same [] (y ∷ ys) = false
same (x ∷ xs) [] = false
same (x ∷ xs) (y ∷ ys) = x == y && same xs ys

pub record LooksUp : Type 0 where
  pub bytes : List ℕ
  pub number : ℕ
  pub part : List ℕ

abbrev looks_up : List ℕ → ℕ → List ℕ → LooksUp
looks_up bytes number part = record { bytes = bytes; number = number; part = part }

abbrev look_ups : List LooksUp
look_ups =
    looks_up gaps 5 first_part ∷
    looks_up gaps 7 second_part ∷
    looks_up gaps 6 [] ∷
    looks_up gaps 0 [] ∷
    looks_up (gaps ++ (0 ∷ [])) 5 [] ∷
    looks_up [] 5 [] ∷
    []

abbrev all_found : List LooksUp → Bool
all_found [] = true
all_found (r ∷ rs) = same (part_of r.bytes r.number (read_map r.bytes)) r.part && all_found rs

look-ups-right : all_found look_ups ≡ true
unfolding part_of locate many number_at signed32 field read_cell bit_at read_place clear_from read_row
    number_field size_field read_head read_body read_area read_areas read_rest read_map
look-ups-right = refl

-- ---- what is counted: the map `row` has its cells at latitude 0 and longitudes 0 to 4

pub record Walks : Type 0 where
  pub edges : List ℤ
  pub widths : List ℕ
  pub people : ℕ
  pub cells : ℕ
  pub boxed-mhz-pops : ℕ
  pub boxed-cells : ℕ

abbrev walks : List ℤ → List ℕ → (people cells boxed-mhz-pops boxed-cells : ℕ) → Walks
walks edges widths p n q m = record {
  edges = edges;
  widths = widths;
  people = p;
  cells = n;
  boxed-mhz-pops = q;
  boxed-cells = m;
}

abbrev walked : List Walks
walked =
    -- the population, and the cells with and without people
    walks [] (50 ∷ []) 20 5 0 0 ∷
    -- a box over columns 2 and 3, 50 MHz wide, and two such, of which one is narrower: a cell counts once for each, whatever its width
    walks (pos 0 ∷ pos 1 ∷ pos 2 ∷ pos 4 ∷ []) (50 ∷ []) 20 5 350 2 ∷
    walks (pos 0 ∷ pos 0 ∷ pos 1 ∷ pos 1 ∷ pos 2 ∷ pos 2 ∷ pos 4 ∷ pos 4 ∷ []) (50 ∷ 1 ∷ []) 20 5 357 4 ∷
    -- a cell without people counts among the cells
    walks (pos 0 ∷ pos 1 ∷ pos 1 ∷ pos 2 ∷ []) (50 ∷ []) 20 5 0 1 ∷
    -- the south and west edges belong to a box, the north and east edges do not
    walks (negsuc 0 ∷ pos 0 ∷ pos 0 ∷ pos 5 ∷ []) (20 ∷ []) 20 5 0 0 ∷
    walks (pos 0 ∷ pos 1 ∷ pos 0 ∷ pos 1 ∷ []) (20 ∷ []) 20 5 100 1 ∷
    walks (pos 0 ∷ pos 1 ∷ negsuc 5 ∷ pos 0 ∷ []) (20 ∷ []) 20 5 0 0 ∷
    []

abbrev same-counts : Walks → List Area → Bool
same-counts w [] = false
same-counts w (a ∷ l) =
    let c = grid_counts w.edges w.widths a.grid in
    (c.people.0 == w.people) && c.cells.0 == w.cells && c.boxed_mhz_pops.0 == w.boxed-mhz-pops
    && c.boxed_cells.0 == w.boxed-cells

abbrev walked_in : Walks → Read (List Area) → Bool
walked_in w (bad f) = false
walked_in w (good l e) = same-counts w l

abbrev all_walked : List Walks → Bool
all_walked [] = true
all_walked (w ∷ ws) = walked_in w (read_map row) && all_walked ws

walks-right : all_walked walked ≡ true
unfolding count sum_below boxes_over width_over boxed_mhz_pops boxed_cells many number_at signed32 field read_cell bit_at read_place
    clear_from read_row number_field size_field read_head read_body read_area read_areas read_rest read_map
walks-right = refl
