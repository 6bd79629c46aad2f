-- c and the sum of cells of an area: what the walk counts gives the sums over the licences. Assumes nothing.
use Prim.Native.Nat.{ℕ, ◌+◌, ◌*◌, ◌/◌, ◌≤◌, ◌<◌, zero-le}
use mathlib.Core.Path.{◌≡◌, refl, sym, ap, ◌∙◌, subst, fun_ext}
use mathlib.Core.Bool.{Bool, true, false, cond}
use mathlib.Core.List.{List}
use native.Mathlib.Omega.{arith}
use native.Mathlib.Nat.{zero-add, add-zero, mul-one, one-mul, mul-zero, mul-add, mul_left_comm, mul_comm, mul-le-mul, mul-div_right}
use borrow.Author.Tests.{le-leb, le-ltb}
use lib.IntN.{ℤ, pos, negsuc}
use lib.ListN.{length, get_or}
use lib.Seq.{length-take-le, get_or-take}
use lib.Dec.{ltb}
use Rattle.lists.specs.Sums.{total, any, flag, count, sum_to}
use Rattle.lists.proofs.BelowLaws.{sum_same}
use Rattle.lists.proofs.SumLaws.{any-total, total-same, total-zero, total-add, total-scale, count_same, exchange}
use Rattle.units.specs.Sums.{capped}
use Rattle.units.proofs.Laws.{exact}
use Rattle.map.specs.declared.Cell.{Cell}
use Rattle.map.specs.declared.parts.Counts.{Counts}
use Rattle.map.specs.declared.parts.CountedArea.{CountedArea}
use Rattle.map.specs.Format.{Place, gap, cell, Area, people_at, population}
use Rattle.boxes.specs.declared.Boxes.{Boxes}
use Rattle.boxes.specs.Boxes.{edges_of, box_covers, box_at, boxes_over, width_over, Narrow}
use Rattle.map.specs.Counting.{cells_at, boxed_mhz_pops, boxed_cells, grid_counts, Small}
use Rattle.map.specs.Answers.{counted_area}
use Rattle.map.specs.Accepted.{AreaHolds}
use Rattle.map.proofs.CountLaws.{area_small}
use Rattle.register.specs.declared.GeoBox.{GeoBox}
use Rattle.register.specs.declared.Ground.{Ground}
use Rattle.register.specs.declared.Ground.TheVariants as ground
use Rattle.register.specs.declared.Licence.{Licence}
use Rattle.register.specs.declared.FlatLicence.{FlatLicence}
use Rattle.register.specs.declared.Naming.{Naming}
use Rattle.register.specs.Licences.{in_force}
use Rattle.register.specs.Grounds.{is_area, NamingDone, is_box, no_box, box_from, BoxesDone}
use Rattle.register.proofs.GroundLaws.{boxes-total, boxes-widths}
use Rattle.coverage.specs.declared.Holding.{Holding}
use Rattle.coverage.specs.declared.CoverageSums.{CoverageSums}
use Rattle.coverage.specs.Cover.{covers, people_under, cell_under, coverage_sums, holding_of}
use Rattle.coverage.specs.Limits.{naming_of, FewNaming, sums_by, holding_by, HoldingDone}

-- ---- one licence over one cell

-- the test of a box at a cell
abbrev over : Cell → GeoBox → Bool
over c b = box_covers b.south b.north b.west b.east c.latitude c.longitude

-- a box with all edges 0 covers no cell
none_over : (c : Cell) → over c no_box ≡ false
none_over c = go c.latitude
  where
    go : (x : ℤ) → box_covers (pos 0) (pos 0) (pos 0) (pos 0) x c.longitude ≡ false
    go (pos n) = simp (le-leb 0 n zero-le, le-ltb n 0 zero-le)
    go (negsuc n) = refl

-- a licence covers a cell by its area or by its box
two_ways : (g : Ground) (number : ℕ) (c : Cell) → flag (is_area number g) + flag (is_box (over c) g) ≡ flag (covers g number c)
two_ways (ground.Area n) number c = add-zero (flag (covers (ground.Area n) number c))
two_ways (ground.Box b) number c = zero-add (flag (covers (ground.Box b) number c))

if-covered : (p : ℕ) (t : Bool) → p * flag t ≡ cond t p 0
if-covered p true = mul-one p
if-covered p false = mul-zero p

-- ---- sums over an area's cells by what is read of the licences

-- a cell weighs `w` of it, which is its people, or one cell: what stands at a place, what boxes add there that count a cell `above` it,
-- and what a licence covers there
abbrev weight : (w : Cell → ℕ) → Place → ℕ
weight w gap = 0
weight w (cell c) = w c

abbrev boxed : (above w : Cell → ℕ) → Place → ℕ
boxed above w gap = 0
boxed above w (cell c) = w c * above c

abbrev under : (number : ℕ) (w : Cell → ℕ) → Licence → Place → ℕ
under number w l gap = 0
under number w l (cell c) = cond (covers l.ground number c) (w c) 0

-- a licence over a cell counts it `times`: once, or once for each MHz of its width. The licences that have the area count `always`, and
-- the boxes of the others `above`
module _ (ls : List Licence) (number : ℕ) (times : Licence → ℕ) {always : ℕ} (above : Cell → ℕ)
    (named : always ≡ total (λ l. times l * flag (is_area number l.ground)) ls)
    (boxed-by : (c : Cell) → above c ≡ total (λ l. times l * flag (is_box (over c) l.ground)) ls)
  where
    -- all licences that cover a cell
    times-covered : (c : Cell) → always + above c ≡ total (λ l. times l * flag (covers l.ground number c)) ls
    times-covered c =
        (λ i. named i + boxed-by c i)
        ∙ sym (total-add (λ l. times l * flag (is_area number l.ground)) (λ l. times l * flag (is_box (over c) l.ground)) ls)
        ∙ total-same (λ l.
        sym (mul-add (times l) (flag (is_area number l.ground)) (flag (is_box (over c) l.ground)))
        ∙ ap (λ (k : ℕ). times l * k) (two_ways l.ground number c)) ls

    -- a sum over places of a sum over licences
    by-licence : {A : Type 0} (f : Licence → A → ℕ) (l : List A) →
        total (λ a. total (λ x. times x * f x a) ls) l ≡ total (λ x. times x * total (f x) l) ls
    by-licence f l = exchange (λ a x. times x * f x a) l ls ∙ total-same (λ x. total-scale (times x) (f x) l) ls

    module _ (w : Cell → ℕ) where
      at_place : (p : Place) → always * weight w p + boxed above w p ≡ total (λ l. times l * under number w l p) ls
      at_place gap = omega (arith, mul-zero always) ∙ sym (total-zero (λ l. mul-zero (times l)) ls)
      at_place (cell c) =
          ap (λ (k : ℕ). k + w c * above c) (mul_comm always (w c))
          ∙ sym (mul-add (w c) always (above c))
          ∙ ap (λ (k : ℕ). w c * k) (times-covered c)
          ∙ sym (total-scale (w c) (λ l. times l * flag (covers l.ground number c)) ls)
          ∙ total-same (λ l.
          mul_left_comm (w c) (times l) (flag (covers l.ground number c))
          ∙ ap (λ (k : ℕ). times l * k) (if-covered (w c) (covers l.ground number c))) ls

      -- the walk over the rows gives the sum over the licences
      walk-gives : (grid : List (List Place)) →
          always * total (total (weight w)) grid + total (total (boxed above w)) grid
          ≡ total (λ l. times l * total (total (under number w l)) grid) ls
      walk-gives grid =
          let stands : Place → ℕ = weight w in
          let adds : Place → ℕ = boxed above w in
          ap (λ (k : ℕ). k + total (total adds) grid) (sym (total-scale always (total stands) grid))
          ∙ sym (total-add (λ row. always * total stands row) (total adds) grid)
          ∙ total-same (λ row.
          ap (λ (k : ℕ). k + total adds row) (sym (total-scale always stands row))
          ∙ sym (total-add (λ p. always * stands p) adds row)
          ∙ total-same at_place row
          ∙ by-licence (under number w) row) grid
          ∙ by-licence (λ l. total (under number w l)) grid

-- ---- what is read of the licences

-- those that have the area
module _ {ps : List FlatLicence} {number : ℕ} {n : Naming} (d : NamingDone number ps n) where
  pub naming-is : n ≡ naming_of (in_force ps) number
  naming-is = λ i. record { licences = d.licences i; width = d.width i }

  pub naming-few : FewNaming n
  naming-few = record { licences = d.few; width = d.most }

-- the edges that the walk takes

pub edges-size : {ps : List FlatLicence} {b : Boxes} → BoxesDone ps b → length (edges_of b) ≡ 4 * b.count
edges-size {ps} {b} d =
    let few = d.counts.few in
    let size = d.edges.size in
    length-take-le (4 * b.count) b.edges (omega arith)

-- ---- all licences in force: `always` tells of those that have the area, and `b` has the boxes of the others

module _ {ps : List FlatLicence} {b : Boxes} (d : BoxesDone ps b) (number : ℕ) where
  abbrev ls : List Licence
  ls = in_force ps

  abbrev edges : List ℤ
  edges = edges_of b

  quarter : length edges / 4 ≡ b.count
  quarter = ap (λ (n : ℕ). n / 4) (edges-size d) ∙ mul-div_right b.count (omega arith)

  edge : (k : ℕ) → k < 4 * b.count → get_or edges k (pos 0) ≡ get_or b.edges k (pos 0)
  edge k h = get_or-take (4 * b.count) b.edges k (pos 0) h

  -- box i at a cell
  box-at : (c : Cell) (i : ℕ) → i < b.count →
      box_at edges c.latitude c.longitude b.count i ≡ over c (box_from b.edges b.count i)
  box-at c i h =
      let n = b.count in
      λ t. box_covers (edge i (omega arith) t) (edge (n + i) (omega arith) t) (edge (2 * n + i) (omega arith) t)
      (edge (3 * n + i) (omega arith) t) c.latitude c.longitude

  -- the boxes over a cell, and their widths
  boxes-over : (c : Cell) → boxes_over edges c.latitude c.longitude ≡ total (λ l. flag (is_box (over c) l.ground)) ls
  unfolding boxes_over
  boxes-over c =
      ap (λ (m : ℕ). count (box_at edges c.latitude c.longitude m) m) quarter
      ∙ count_same (box_at edges c.latitude c.longitude b.count) (λ i. over c (box_from b.edges b.count i)) b.count
      (box-at c)
      ∙ boxes-total (over c) (none_over c) d

  widths-over : (c : Cell) →
      width_over edges b.widths c.latitude c.longitude ≡ total (λ l. l.width * flag (is_box (over c) l.ground)) ls
  unfolding width_over
  widths-over c =
      ap (λ (m : ℕ). sum_to (λ i. get_or b.widths i 0 * flag (box_at edges c.latitude c.longitude m i)) m) quarter
      ∙ sum_same (λ i. get_or b.widths i 0 * flag (box_at edges c.latitude c.longitude b.count i))
      (λ i. get_or b.widths i 0 * flag (over c (box_from b.edges b.count i))) (λ _. true) (λ _. true) b.count
      (λ i h. ap (λ (t : Bool). get_or b.widths i 0 * flag t) (box-at c i h))
      ∙ boxes-widths (over c) (none_over c) d

  -- no licence is wider than 50 MHz
  narrow : Narrow edges b.widths
  narrow i h = omega (arith, d.widths.each i (omega (arith, quarter)))

  -- each counted once
  once : (f : Licence → ℕ) {n : ℕ} → n ≡ total f ls → n ≡ total (λ l. 1 * f l) ls
  once f e = e ∙ total-same (λ l. sym (one-mul (f l))) ls

  boxes-once : (c : Cell) →
      boxes_over edges c.latitude c.longitude ≡ total (λ l. 1 * flag (is_box (over c) l.ground)) ls
  boxes-once c = once (λ l. flag (is_box (over c) l.ground)) (boxes-over c)

  module _ {always : Naming} (named : always ≡ naming_of ls number) where
    number_of : always.licences ≡ total (λ l. 1 * flag (is_area number l.ground)) ls
    number_of = once (λ l. flag (is_area number l.ground)) (ap (λ (n : Naming). n.licences) named)

    -- a cell is covered where some licence covers it
    pub covered-some : (c : Cell) →
        ltb 0 (always.licences + boxes_over edges c.latitude c.longitude) ≡ any (λ l. covers l.ground number c) ls
    covered-some c =
        ap (ltb 0) (times-covered ls number (λ _. 1) (λ x. boxes_over edges x.latitude x.longitude) number_of boxes-once c
        ∙ total-same (λ l. one-mul (flag (covers l.ground number c))) ls)
        ∙ sym (any-total (λ l. covers l.ground number c) ls)

    -- c
    mhz-pops-are : (grid : List (List Place)) →
        always.width * population grid + total (total (boxed_mhz_pops edges b.widths)) grid
        ≡ total (λ l. l.width * total (total (people_under l number)) grid) ls
    unfolding boxed_mhz_pops
    mhz-pops-are grid =
        (λ i. always.width * total (total (fun_ext stands i)) grid + total (total (fun_ext adds i)) grid)
        ∙ walk-gives ls number (λ l. l.width) above (ap (λ (n : Naming). n.width) named) widths-over people grid
        ∙ total-same (λ l. ap (λ (f : Place → ℕ). l.width * total (total f) grid) (fun_ext (covers-it l))) ls
      where
        people : Cell → ℕ
        people c = c.people

        above : Cell → ℕ
        above c = width_over edges b.widths c.latitude c.longitude

        stands : (p : Place) → people_at p ≡ weight people p
        stands gap = refl
        stands (cell c) = refl

        adds : (p : Place) → boxed_mhz_pops edges b.widths p ≡ boxed above people p
        adds gap = refl
        adds (cell c) = refl

        covers-it : (l : Licence) (p : Place) → under number people l p ≡ people_under l number p
        covers-it l gap = refl
        covers-it l (cell c) = refl

    -- the sum of cells
    cells_are : (grid : List (List Place)) →
        always.licences * total (total cells_at) grid + total (total (boxed_cells edges)) grid
        ≡ total (λ l. total (total (cell_under l number)) grid) ls
    unfolding boxed_cells
    cells_are grid =
        (λ i. always.licences * total (total (fun_ext stands i)) grid + total (total (fun_ext adds i)) grid)
        ∙ walk-gives ls number (λ _. 1) above number_of boxes-once one grid
        ∙ total-same (λ l.
        one-mul (total (total (under number one l)) grid)
        ∙ ap (λ (f : Place → ℕ). total (total f) grid) (fun_ext (covers-it l))) ls
      where
        one : Cell → ℕ
        one c = 1

        above : Cell → ℕ
        above c = boxes_over edges c.latitude c.longitude

        stands : (p : Place) → cells_at p ≡ weight one p
        stands gap = refl
        stands (cell c) = refl

        adds : (p : Place) → boxed_cells edges p ≡ boxed above one p
        adds gap = refl
        adds (cell c) = sym (one-mul (above c))

        covers-it : (l : Licence) (p : Place) → under number one l p ≡ cell_under l number p
        covers-it l gap = refl
        covers-it l (cell c) = refl

-- ---- c and the sum of cells of an area of a map

-- what is counted is small, so that no sum stops
sums-exact : (always : Naming) (c : Counts) → FewNaming always → Small 65536 c →
    sums_by always c ≡ record {
      mhz_pops = record { 0 = always.width * c.people.0 + c.boxed_mhz_pops.0 };
      cells = record { 0 = always.licences * c.cells.0 + c.boxed_cells.0 };
    }
sums-exact always c few h =
    let people : always.width * c.people.0 ≤ 3200 * 65536000000 =
    mul-le-mul {m₂ = 65536000000} few.width (omega (arith, h.people)) in
    let cells : always.licences * c.cells.0 ≤ 64 * 65536 = mul-le-mul {m₂ = 65536} few.licences (omega (arith, h.cells)) in
    λ i. record {
      mhz_pops = record {
        0 = (ap (λ (n : ℕ). capped (n + c.boxed_mhz_pops.0)) (exact (always.width * c.people.0) (omega arith))
            ∙ exact (always.width * c.people.0 + c.boxed_mhz_pops.0) (omega (arith, h.boxed-mhz-pops))) i;
      };
      cells = record {
        0 = (ap (λ (n : ℕ). capped (n + c.boxed_cells.0)) (exact (always.licences * c.cells.0) (omega arith))
            ∙ exact (always.licences * c.cells.0 + c.boxed_cells.0) (omega (arith, h.boxed-cells))) i;
      };
    }

module _ {ps : List FlatLicence} {b : Boxes} (d : BoxesDone ps b) {s : List ℕ} {a : Area} (h : AreaHolds s a) where
  pub sums-are : {always : Naming} → always ≡ naming_of (in_force ps) a.head.number → FewNaming always
      → sums_by always (grid_counts (edges_of b) b.widths a.grid) ≡ coverage_sums (in_force ps) a
  sums-are {always} named few =
      sums-exact always (grid_counts (edges_of b) b.widths a.grid) few
      (area_small (edges_of b) b.widths (omega (arith, edges-size d, d.counts.few)) (narrow d a.head.number) h)
      ∙ (λ i. record {
        mhz_pops = record { 0 = mhz-pops-are d a.head.number named a.grid i };
        cells = record { 0 = cells_are d a.head.number named a.grid i };
      })

  -- an area that is handed out, with its c and its sum of cells
  pub holding-handed : {x : CountedArea} {r : Holding} → x ≡ counted_area (edges_of b) b.widths a → HoldingDone (in_force ps) x r
      → r ≡ holding_of (in_force ps) a
  holding-handed {x} {r} e q =
      let ls = in_force ps in
      let few : FewNaming (naming_of ls a.head.number) =
      subst (λ (y : CountedArea). FewNaming (naming_of ls y.area.number)) e q.few in
      let with : CoverageSums → Holding = λ c. record {
        number = a.head.number;
        weight = a.head.weight;
        population = record { 0 = population a.grid };
        covered = c.mhz_pops;
        cells = c.cells;
      } in
      q.is ∙ ap (λ (y : CountedArea). holding_by (naming_of ls y.area.number) y) e ∙ ap with (sums-are refl few)
