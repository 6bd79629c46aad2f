-- The cells of an area laid out by place, and what the rounds make of them. Assumes nothing.
use Prim.Native.Nat.{ℕ, ◌+◌, ◌*◌, ◌≤◌, ◌<◌}
use mathlib.Core.Path.{◌≡◌, refl, sym, ap, subst, ◌∙◌}
use mathlib.Core.Bool.{Bool, true, false, cond, not, ◌&&◌}
use mathlib.Core.List.{List, map, ◌++◌}
use native.Mathlib.Omega.{arith}
use native.Mathlib.Nat.{mul-le-mul}
use lib.Dec.{ltb, eqb}
use lib.IntN.{ℤ}
use lib.ListN.{length, get_or, drop, replicate, length-replicate}
use borrow.Author.Tests.{lt-ltb, le-ltb, le-leb}
use Rattle.std.specs.Prelude.{Result, Ok, Err}
use Rattle.lists.specs.Sums.{any, flag, some_below}
use Rattle.lists.specs.Filters.{up_to}
use Rattle.lists.proofs.Tests.{by-test, not-both, both, told}
use Rattle.lists.proofs.BelowLaws.{first_below}
use Rattle.lists.proofs.InPlace.{drop-same, front-is, each_below, each_at, zeros-at}
use Rattle.map.specs.declared.Cell.{Cell}
use Rattle.map.specs.Reading.{Read}
use Rattle.map.specs.Format.{Place, gap, cell, people_at, Area, read_rows}
use Rattle.boxes.specs.Boxes.{boxes_over}
use Rattle.map.specs.Answers.{summary}
use Rattle.map.specs.declared.Area as handed
use Rattle.map.specs.Accepted.{AreaHolds}
use Rattle.register.specs.declared.Licence.{Licence}
use Rattle.coverage.specs.Cover.{covers, holding_of}
use Rattle.coverage.specs.Blocks.{size}
use Rattle.places.specs.Places.{place_of, is_cell, is_covered, grid_of, Lists, LaidOut}
use Rattle.places.proofs.PlaceLaws.{place-small, people-sum}
use Rattle.ring.specs.Ring.{shown, fits}
use Rattle.ring.proofs.RingLaws.{fits-of}
use Rattle.rounds.specs.declared.MakeRefusal.TheVariants as outlined
use Rattle.rounds.specs.Footprint.{PartArea, places, value, footprint, needed}
use Rattle.rounds.specs.Promises.{area_of, in_limits, Answer, answer_by, Made, MakeDone}
use Rattle.rounds.specs.Demand.{Right}
use Rattle.rounds.proofs.Same.{Alike, Agree, same-needed, same-footprint, same_whole}
use Rattle.rounds.proofs.Theorems.{right}
use Rattle.footprint.specs.declared.FootprintRefusal.{FootprintRefusal}
use Rattle.footprint.specs.declared.FootprintRefusal.TheVariants as answered
use Rattle.footprint.specs.Footprint.{part_area, covered_at, covered_cells, Footprint, short, made, footprint_of}
use Rattle.footprint.specs.Promises.{reply, FootprintDone}
use Rattle.footprint.specs.Code.{Buffers, Comes, Fits, told_by}

-- ---- an area of an accepted map

module _ {s : List ℕ} {a : Area} (h : AreaHolds s a) (licences : List Licence) where
  -- V of all its cells is its M
  pub whole-value : value (part_area a) (part_area a).cells ≡ size (holding_of licences a)
  unfolding value size
  whole-value =
      ap (λ (p : ℕ). 100 * a.head.weight * p) (people-sum a.head.columns a.head.rows a.grid h.grid)

  -- what demand 3 says of its footprint
  pub outline-right : (share : ℕ) → Fits licences share a
      → Right (part_area a) share (covered_cells licences a) (footprint (part_area a) share (covered_cells licences a))
  outline-right share f =
      right (part_area a) share h.weight.0 h.columns.0 f.0 (subst (λ (v : ℕ). share < v) (sym whole-value) f.1)
      (covered_cells licences a)

-- ---- its cells by place

told-most : (b : Bool) → flag b ≤ 1
told-most true = omega arith
told-most false = omega arith

-- no number below n passes
none_of : (test : ℕ → Bool) (n : ℕ) → ((i : ℕ) → i < n → test i ≡ false) → not (some_below test n) ≡ true
none_of test n h = by-test (some_below test n)
    (λ t. let f = first_below test n t in not-both f.passes (h f.at f.low))
    (λ t. ap not t)

-- the three lists hold the area
pub record Holds (a : Area) (licences : List Licence) (l : Lists) : Type 0 where
  pub people : (i : ℕ) → i < places (part_area a) → get_or l.people i 0 ≡ (part_area a).people i
  pub cells : (i : ℕ) → i < places (part_area a) → get_or l.cells i 0 ≡ flag ((part_area a).cells i)
  pub mask : (i : ℕ) → i < places (part_area a) → get_or l.mask i 0 ≡ flag (covered_cells licences a i)

-- what is laid at a place of the area, and past it
laid_in : (n i put before : ℕ) → i < n → cond (ltb i n) put before ≡ put
laid_in n i put before h = rw (lt-ltb i n h)

laid-past : (n i put before : ℕ) → n ≤ i → cond (ltb i n) put before ≡ before
laid-past n i put before h = rw (le-ltb i n h)

module _ {s : List ℕ} {a : Area} (h : AreaHolds s a) (licences : List Licence) (always : ℕ) (edges : List ℤ)
    (over : (c : Cell) → ltb 0 (always + boxes_over edges c.latitude c.longitude)
    ≡ any (λ l. covers l.ground a.head.number c) licences)
  where
    abbrev rows : Read (List (List Place))
    rows = read_rows s a.head.columns a.head.rows a.start

    covered-is : (p : Place) → is_covered always edges p ≡ covered_at licences a.head.number p
    covered-is gap = refl
    covered-is (cell c) = over c

    module _ (before after : Lists) (d : LaidOut rows a.head.columns a.head.rows always edges before after) where
      abbrev at : Read (List (List Place)) → ℕ → Place
      at r i = place_of (grid_of r) a.head.columns i

      pub laid-holds : Holds a licences after
      laid-holds = record {
        people = λ i b.
            d.people i ∙ laid_in (places (part_area a)) i (people_at (at rows i)) (get_or before.people i 0) b
            ∙ ap (λ (r : Read (List (List Place))). people_at (at r i)) h.reads;
        cells = λ i b.
            d.cells i ∙ laid_in (places (part_area a)) i (flag (is_cell (at rows i))) (get_or before.cells i 0) b
            ∙ ap (λ (r : Read (List (List Place))). flag (is_cell (at r i))) h.reads;
        mask = λ i b.
            d.mask i ∙ laid_in (places (part_area a)) i (flag (is_covered always edges (at rows i))) (get_or before.mask i 0) b
            ∙ ap (λ (r : Read (List (List Place))). flag (is_covered always edges (at r i))) h.reads
            ∙ ap flag (covered-is (place_of a.grid a.head.columns i));
      }

      pub laid-rest : (i : ℕ) → places (part_area a) ≤ i → get_or after.mask i 0 ≡ get_or before.mask i 0
      laid-rest i b =
          d.mask i ∙ laid-past (places (part_area a)) i (flag (is_covered always edges (at rows i))) (get_or before.mask i 0) b

-- ---- what the rounds make of the lists

module _ {s : List ℕ} {a : Area} (h : AreaHolds s a) (licences : List Licence) (share : ℕ) (f : Fits licences share a)
    (l : Lists) (holds : Holds a licences l) (roomy : places (part_area a) ≤ length l.mask)
    (people-room : length l.people ≡ 16384) (cells-room : length l.cells ≡ 16384)
  where
    abbrev listed : PartArea
    listed = area_of a.head.rows a.head.columns a.head.weight l.cells l.people

    abbrev n : ℕ
    n = a.head.rows * a.head.columns

    few : n ≤ 16384
    few = mul-le-mul h.rows.1 h.columns.1

    alike : Alike listed (part_area a)
    alike = record {
      rows = refl;
      columns = refl;
      weight = refl;
      cells = λ i b. ap (λ (x : ℕ). eqb x 1) (holds.cells i b) ∙ told ((part_area a).cells i);
      people = holds.people;
    }

    agree : Agree n (shown l.mask) (covered_cells licences a)
    agree i b = ap (λ (x : ℕ). eqb x 1) (holds.mask i b) ∙ told (covered_cells licences a i)

    -- the share and the lists are within the limits of the rounds
    pub in-limits : in_limits listed share l.mask l.cells l.people ≡ true
    unfolding in_limits
    in-limits =
        let sizes : (bytes : ℕ) → n ≤ bytes → fits a.head.rows a.head.columns bytes ≡ true =
        λ bytes long. fits-of a.head.rows a.head.columns bytes (record {
          some = h.columns.0;
          narrow = omega (arith, h.columns.1);
          low = omega (arith, h.rows.1);
          long = long;
        }) in
        let plain = none_of (λ i. ltb 1 (get_or l.mask i 0)) n
        (λ i b. le-ltb 1 (get_or l.mask i 0) (subst (λ (x : ℕ). x ≤ 1) (sym (holds.mask i b)) (told-most (covered_cells licences a i)))) in
        let small = none_of (λ i. ltb 1_000_000 (get_or l.people i 0)) n
        (λ i b. le-ltb 1_000_000 (get_or l.people i 0)
        (subst (λ (x : ℕ). x ≤ 1_000_000) (sym (holds.people i b))
        (place-small a.head.columns a.head.rows a.grid h.grid i))) in
        let below : share < value listed listed.cells =
        subst (λ (v : ℕ). share < v) (sym (same_whole listed (part_area a) alike share ∙ whole-value h licences)) f.1 in
        both (both (both (both (both (both (both (both (both
        (sizes (length l.mask) roomy)
        (sizes (length l.cells) (omega (arith, few))))
        (le-leb n (length l.people) (omega (arith, few))))
        (le-leb n 65535 (omega (arith, few))))
        (le-leb 1 a.head.weight h.weight.0))
        (le-leb a.head.weight 65535 h.weight.1))
        plain)
        small)
        (lt-ltb 0 share f.0))
        (lt-ltb share (value listed listed.cells) below)

    -- the entries needed and the footprint are those of the area
    needs : needed listed share (shown l.mask) ≡ needed (part_area a) share (covered_cells licences a)
    needs = same-needed listed (part_area a) alike share (shown l.mask) (covered_cells licences a) agree

    marks : (i : ℕ) → i < n → footprint listed share (shown l.mask) i ≡ footprint (part_area a) share (covered_cells licences a) i
    marks = same-footprint listed (part_area a) alike share (shown l.mask) (covered_cells licences a) agree

    -- the mask and the table that were lent, and as they come back
    module _ (b : Buffers) (size : length b.after ≡ length b.mask) (entries : length b.entries ≡ length b.table)
        (lent : length l.mask ≡ length b.mask)
        (rest : (i : ℕ) → n ≤ i → get_or l.mask i 0 ≡ get_or b.mask i 0)
      where
        abbrev o : Footprint
        o = footprint_of a.head.number (part_area a) share (covered_cells licences a) (length b.mask) (length b.table)

        abbrev entries_needed : ℕ
        entries_needed = needed (part_area a) share (covered_cells licences a)

        -- what comes where the table is too short, and where it is not
        is-short : ltb (length b.table) entries_needed ≡ true → o ≡ short n entries_needed
        unfolding footprint_of
        is-short t = rw (le-ltb (length b.mask) n (omega arith), t)

        is_made : ltb (length b.table) entries_needed ≡ false
            → o ≡ made a.head.number n entries_needed (footprint (part_area a) share (covered_cells licences a))
        unfolding footprint_of
        is_made t = rw (le-ltb (length b.mask) n (omega arith), t)

        module _ (r : Answer) (d : Made listed share (shown l.mask) r l.mask b.after b.table b.entries) where
          -- a byte of the area, by whether the table is too short
          byte-in : (t : Bool) → ltb (length b.table) entries_needed ≡ t → (i : ℕ) → i < n
              → get_or b.after i 0 ≡ flag (not t && footprint (part_area a) share (covered_cells licences a) i)
          byte-in t e i k =
              d.bytes i ∙ rw (lt-ltb i n k)
              (λ j. flag (not ((ap (ltb (length b.table)) needs ∙ e) j) && marks i k j))

          byte_past : (i : ℕ) → n ≤ i → get_or b.after i 0 ≡ get_or b.mask i 0
          byte_past i k = d.bytes i ∙ rw (le-ltb i n k) (rest i k)

          -- the whole mask, by what stands in the area
          area-bytes : (front : List ℕ) → length front ≡ n → ((i : ℕ) → i < n → get_or b.after i 0 ≡ get_or front i 0)
              → b.after ≡ front ++ drop n b.mask
          area-bytes front e inside =
              front-is front b.mask b.after (omega arith) size (λ i k. inside i (omega arith)) (λ i k. byte_past i (omega arith))
              ∙ ap (λ (k : ℕ). front ++ drop k b.mask) e

          abbrev Given : Footprint → Result ℕ FootprintRefusal → Type 0
          Given x reply = FootprintDone x reply b.mask b.after b.table b.entries

          comes-short : ltb (length b.table) entries_needed ≡ true → Given o (Err (answered.TableShort entries_needed))
          comes-short t =
              let lacks = ap (ltb (length b.table)) needs ∙ t in
              subst (λ (x : Footprint). Given x (Err (answered.TableShort entries_needed))) (sym (is-short t)) (record {
                answer = refl;
                bytes = area-bytes (replicate n 0) (length-replicate n 0) (λ i k. byte-in true t i k ∙ sym (zeros-at n i));
                size = entries;
                unused = drop-same 0 b.entries b.table entries (λ i k. d.unused i (λ z. not-both lacks z));
              })

          comes-made : ltb (length b.table) entries_needed ≡ false → Given o (Ok a.head.number)
          comes-made t =
              let cells : ℕ → ℕ = λ i. flag (footprint (part_area a) share (covered_cells licences a) i) in
              subst (λ (x : Footprint). Given x (Ok a.head.number)) (sym (is_made t)) (record {
                answer = refl;
                bytes = area-bytes (map cells (up_to n)) (each_below cells n) (λ i k. byte-in false t i k ∙ sym (each_at cells n i k));
                size = entries;
                unused = drop-same entries_needed b.entries b.table entries
                    (λ i k. d.unused i (λ _. subst (λ (m : ℕ). m ≤ i) (sym needs) k));
              })

          -- the answer that the rounds give, as the footprint's
          said : (t : Bool) → ltb (length b.table) entries_needed ≡ t
              → told_by a.head.number (cond t (Err (outlined.TableShort entries_needed)) (Ok tt)) ≡ told_by a.head.number r
          said t e = ap (told_by a.head.number)
              (ap (λ (x : Bool). cond x (Err (outlined.TableShort entries_needed)) (Ok tt)) (sym e)
              ∙ sym (d.answer ∙ ap (λ (k : ℕ). answer_by k (length b.table)) needs))

          pub comes : Given o (told_by a.head.number r)
          comes = by-test (ltb (length b.table) entries_needed)
              (λ t. subst (Given o) (said true t) (comes-short t))
              (λ t. subst (Given o) (said false t) (comes-made t))

-- ---- what the code has after the rounds

-- for an area that is handed out, of a map's bytes: the boxes and the area's own licences, the lists before and after its cells were
-- laid out, and what the rounds made of them
pub record Outlined (s : List ℕ) (licences : List Licence) (share : ℕ) (x : handed.Area) (r : Answer) (b : Buffers) : Type 0 where
  pub always : ℕ
  pub edges : List ℤ
  pub over : (c : Cell) → ltb 0 (always + boxes_over edges c.latitude c.longitude)
      ≡ any (λ l. covers l.ground x.number c) licences
  pub before : Lists
  pub after : Lists
  pub room : x.rows * x.columns ≤ length b.mask
  pub lent : before.mask ≡ b.mask
  pub people-lent : length before.people ≡ 16384
  pub cells-lent : length before.cells ≡ 16384
  pub laid : LaidOut (read_rows s x.columns x.rows x.start) x.columns x.rows always edges before after
  pub mask-kept : length after.mask ≡ length before.mask
  pub people-kept : length after.people ≡ length before.people
  pub cells-kept : length after.cells ≡ length before.cells
  pub made : MakeDone (area_of x.rows x.columns x.weight after.cells after.people) share r
      after.mask b.after after.cells after.people b.table b.entries
  pub after_kept : length b.after ≡ length after.mask
  pub entries-kept : length b.entries ≡ length b.table

module _ {s : List ℕ} {a : Area} (h : AreaHolds s a) (licences : List Licence) (share : ℕ) (f : Fits licences share a)
    (r : Answer) (b : Buffers)
  where
    of-summary : Outlined s licences share (summary a) r b
        → Comes (footprint_of a.head.number (part_area a) share (covered_cells licences a)) (told_by a.head.number r) b
    of-summary d =
        let n = places (part_area a) in
        let long = ap length d.lent in
        let holds = laid-holds h licences d.always d.edges d.over d.before d.after d.laid in
        let rest = laid-rest h licences d.always d.edges d.over d.before d.after d.laid in
        let roomy : n ≤ length d.after.mask = omega (arith, d.room, d.mask-kept) in
        let people = d.people-kept ∙ d.people-lent in
        let cells = d.cells-kept ∙ d.cells-lent in
        comes h licences share f d.after holds roomy people cells b
        (d.after_kept ∙ d.mask-kept ∙ long) d.entries-kept (d.mask-kept ∙ long)
        (λ i k. rest i k ∙ ap (λ (m : List ℕ). get_or m i 0) d.lent)
        r (d.made.inside (in-limits h licences share f d.after holds roomy people cells))

    pub outlined-by : (x : handed.Area) → x ≡ summary a → Outlined s licences share x r b
        → Comes (footprint_of a.head.number (part_area a) share (covered_cells licences a)) (told_by x.number r) b
    outlined-by x e d =
        subst (λ (n : ℕ). Comes (footprint_of a.head.number (part_area a) share (covered_cells licences a)) (told_by n r) b)
        (ap (λ (y : handed.Area). y.number) (sym e))
        (of-summary (subst (λ (y : handed.Area). Outlined s licences share y r b) e d))

-- a mask that is too short
pub too_short : (licences : List Licence) (share : ℕ) (a : Area) (b : Buffers) → length b.mask < places (part_area a)
    → b.after ≡ b.mask → b.entries ≡ b.table
    → Comes (footprint_of a.head.number (part_area a) share (covered_cells licences a)) (Err answered.MaskShort) b
unfolding footprint_of
too_short licences share a b k e g = rw (lt-ltb (length b.mask) (places (part_area a)) k)
    (record { answer = refl; bytes = e; size = ap length g; unused = g })
