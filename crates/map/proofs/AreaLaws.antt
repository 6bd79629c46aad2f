-- Laws of areas and of the loop over them. Assumes nothing.
use Rattle.std.proofs.Common.{◌≡◌, ℕ, ◌+◌, ◌-◌, ◌<◌, ◌≤◌, Bool, true, false, cond, eqb, Option, Some, None, Ok, MatchOption, IsSomeAnd}
use Rattle.std.proofs.Common.{List, [], ◌∷◌, length, ℤ, sym, refl, ap, ◌∙◌}
use Rattle.std.proofs.Common.{arith, eq-eqb, ne_eqb}
use Rattle.map.specs.Reading.{Read, bad, good, bind, map_read}
use Rattle.map.specs.Format.{
  Place,
  gap,
  cell,
  population,
  within,
  Head,
  Area,
  read_rows,
  read_body,
  read_area,
  read_areas,
  read_rest,
}
use Rattle.lists.specs.Sums.{total, sum_below}
use Rattle.boxes.specs.Boxes.{width_over}
use Rattle.map.specs.Counting.{cells_at, counts, boxed_mhz_pops, boxed_cells, grid_counts}
use Rattle.map.specs.Answers.{
  summary,
  counted_area,
  counted_for,
  Located,
  none,
  some,
  locate,
  LookedUp,
  SoughtOf,
  refused,
  lacking,
  has,
  located,
  look_up,
  located_as,
  seek,
  sought_means,
  number_of,
}
use Rattle.map.specs.declared.Area.{Area as Handed}
use Rattle.map.specs.declared.parts.Counts.{Counts}
use Rattle.map.specs.declared.parts.CountedArea.{CountedArea}
use Rattle.std.specs.Bool.{then_some}
use Rattle.std.specs.Option.{option_or}
use Rattle.lists.proofs.Tests.{takes, leaves}
use Rattle.map.proofs.FieldLaws.{bind-bad}
use Rattle.map.proofs.LoopLaws.{sub-step, sub-end}

-- a fault in what is made of a reading is the reading's
pub map-bad : {A B : Type 0} (g : A → B) (r : Read A) {f : ℕ} → bad f ≡ map_read g r → bad f ≡ r
map-bad g (bad x) q = cc
map-bad g (good a e) q = cc

-- ---- the rows after a head

-- what is handed out of an area whose rows end at e
abbrev pub handed_out : Head → ℕ → Counts → ℕ → CountedArea
handed_out h start c e = record {
  area = record {
    number = h.number;
    weight = h.weight;
    rows = h.rows;
    columns = h.columns;
    population = c.people;
    start = start;
    end = e;
  };
  counts = c;
}

module _ (s : List ℕ) (h : Head) (start : ℕ) (edges : List ℤ) (widths : List ℕ) where
  abbrev rows : Read (List (List Place))
  rows = read_rows s h.columns h.rows start

  abbrev area_of : List (List Place) → ℕ → Read Area
  area_of grid e =
      cond (within 1 40_000_000 (population grid)) (good (record { head = h; start = start; grid = grid; end = e }) e) (bad 5)

  pub body-bad : {f : ℕ} → bad f ≡ map_read (grid_counts edges widths) rows → bad f ≡ map_read (counted_area edges widths) (read_body s h start)
  unfolding read_body
  body-bad q = ap (map_read (counted_area edges widths)) (bind-bad _ (map-bad (grid_counts edges widths) rows q))

  module _ {c : Counts} {e : ℕ} (q : good c e ≡ map_read (grid_counts edges widths) rows) where
    pub body-good : within 1 40_000_000 c.people.0 ≡ true
        → good (handed_out h start c e) e ≡ map_read (counted_area edges widths) (read_body s h start)
    unfolding read_body
    body-good w = go rows q
      where
        go : (r : Read (List (List Place))) → good c e ≡ map_read (grid_counts edges widths) r
            → good (handed_out h start c e) e ≡ map_read (counted_area edges widths) (bind r area_of)
        go (bad x) q = cc
        go (good grid m) q =
            let qc : c ≡ grid_counts edges widths grid = cc in
            let qe : e ≡ m = cc in
            ◌∙◌ {b = good (handed_out h start (grid_counts edges widths grid) m) m} (λ i. good (handed_out h start (qc i) (qe i)) (qe i))
            (ap (map_read (counted_area edges widths))
            (takes (bad 5) (ap (λ (k : Counts). within 1 40_000_000 k.people.0) (sym qc) ∙ w)))

    pub body-out : within 1 40_000_000 c.people.0 ≡ false → bad 5 ≡ map_read (counted_area edges widths) (read_body s h start)
    unfolding read_body
    body-out w = go rows q
      where
        go : (r : Read (List (List Place))) → good c e ≡ map_read (grid_counts edges widths) r
            → bad 5 ≡ map_read (counted_area edges widths) (bind r area_of)
        go (bad x) q = cc
        go (good grid m) q =
            let qc : c ≡ grid_counts edges widths grid = cc in
            ap (map_read (counted_area edges widths))
            (leaves (good (record { head = h; start = start; grid = grid; end = m }) m)
            (ap (λ (k : Counts). within 1 40_000_000 k.people.0) (sym qc) ∙ w))

-- under no box the widths count for nothing
no_width : (v w : List ℕ) (p : Place) → boxed_mhz_pops [] v p ≡ boxed_mhz_pops [] w p
unfolding boxed_mhz_pops width_over sum_below
no_width v w gap = refl
no_width v w (cell c) = refl

bare_area : (v w : List ℕ) (a : Area) → counted_area [] v a ≡ counted_area [] w a
bare_area v w a = λ i. record {
  area = summary a;
  counts = counts (population a.grid) (total (total cells_at) a.grid) (total (total (λ p. no_width v w p i)) a.grid)
      (total (total (boxed_cells [])) a.grid);
}

-- ---- an area that is counted under boxes if it has the number that is sought

module _ (s : List ℕ) (start number : ℕ) (edges : List ℤ) (widths : List ℕ) (h : Head) where
  -- the edges that a head's area is counted under
  abbrev edges_for : List ℤ
  edges_for = cond (eqb h.number number) edges []

  -- an area that is read has the head that was read
  counted-for : map_read (counted_for number edges widths) (read_body s h start) ≡ map_read (counted_area edges_for widths) (read_body s h start)
  unfolding read_body
  counted-for = go (read_rows s h.columns h.rows start)
    where
      by : (t : Bool) (grid : List (List Place)) (e : ℕ) →
          let a : Read Area = cond t (good (record { head = h; start = start; grid = grid; end = e }) e) (bad 5) in
          map_read (counted_for number edges widths) a ≡ map_read (counted_area edges_for widths) a
      by true grid e = refl
      by false grid e = refl

      go : (r : Read (List (List Place)))
          → map_read (counted_for number edges widths) (bind r (area_of s h start edges widths))
          ≡ map_read (counted_area edges_for widths) (bind r (area_of s h start edges widths))
      go (bad x) = refl
      go (good grid e) = by (within 1 40_000_000 (population grid)) grid e

  pub for-sought : {r : Read CountedArea} → h.number ≡ number → r ≡ map_read (counted_area edges widths) (read_body s h start)
      → r ≡ map_read (counted_for number edges widths) (read_body s h start)
  for-sought n e =
      e ∙ ap (λ (l : List ℤ). map_read (counted_area l widths) (read_body s h start)) (takes [] (eq-eqb h.number number n))
      ∙ sym counted-for

  pub for-other : {r : Read CountedArea} (any : List ℕ) → (h.number ≡ number → ⊥)
      → r ≡ map_read (counted_area [] any) (read_body s h start)
      → r ≡ map_read (counted_for number edges widths) (read_body s h start)
  for-other any n e =
      e ∙ (λ i. map_read (λ a. bare_area any widths a i) (read_body s h start))
      ∙ ap (λ (l : List ℤ). map_read (counted_area l widths) (read_body s h start)) (leaves edges (ne_eqb h.number number n))
      ∙ sym counted-for

-- ---- the loop over the areas

-- what is found, where `f` is found so far and `g` in what follows
abbrev or_else : {A : Type 0} → SoughtOf A → SoughtOf A → SoughtOf A
or_else (refused f) g = refused f
or_else lacking g = g
or_else (has a) g = has a

or-lacking : {A : Type 0} (f : SoughtOf A) → or_else f lacking ≡ f
or-lacking (refused f) = refl
or-lacking lacking = refl
or-lacking (has a) = refl

-- the first with the number counts
abbrev pub kept : Option CountedArea → CountedArea → ℕ → Option CountedArea
kept f a n = option_or f (then_some (eqb a.area.number n) a)

-- what the areas so far tell
abbrev found_means : Option CountedArea → SoughtOf CountedArea
found_means f = sought_means (Ok f)

module _ (s : List ℕ) (number : ℕ) (edges : List ℤ) (widths : List ℕ) where
  -- what is found, with `f` found so far and the areas that are left read as r
  abbrev finish : SoughtOf CountedArea → Read (List Area) → SoughtOf CountedArea
  finish f (bad x) = refused x
  finish f (good l e) = cond (eqb e (length s)) (or_else f (located_as (counted_area edges widths) (locate number l))) (refused 3)

  -- the invariant of the loop at area k of n: the number of the area before is `before`
  pub record Search (n first k at before : ℕ) (f : Option CountedArea) : Type 0 where
    pub inside : k ≤ n
    pub left : seek (counted_area edges widths) number (read_rest s n first) ≡ finish (found_means f) (read_areas s (n - k) before at)

  search-begins : (n first : ℕ) → Search n first 0 first 0 None
  unfolding seek read_rest
  search-begins n first = record {
    inside = omega arith;
    left = go (read_areas s n 0 first) ∙ ap (λ (k : ℕ). finish lacking (read_areas s k 0 first)) (omega arith);
  }
    where
      by : (t : Bool) (l : List Area) (e : ℕ)
          → seek (counted_area edges widths) number (cond t (good l e) (bad 3))
          ≡ cond t (located_as (counted_area edges widths) (locate number l)) (refused 3)
      by true l e = refl
      by false l e = refl

      go : (r : Read (List Area))
          → seek (counted_area edges widths) number (bind r (λ l e. cond (eqb e (length s)) (good l e) (bad 3))) ≡ finish lacking r
      go (bad x) = refl
      go (good l e) = by (eqb e (length s)) l e

  keeps : (t : Bool) (a : Area) (g : Located)
      → located_as (counted_area edges widths) (cond t (some a) g)
      ≡ or_else (found_means (then_some t (counted_area (cond t edges []) widths a)))
      (located_as (counted_area edges widths) g)
  keeps true a g = refl
  keeps false a g = refl

  one_more : (f : Option CountedArea) (a : Area) (l : List Area)
      → or_else (found_means f) (located_as (counted_area edges widths) (locate number (a ∷ l)))
      ≡ or_else (found_means (kept f (counted_for number edges widths a) number)) (located_as (counted_area edges widths) (locate number l))
  unfolding locate
  one_more None a l = keeps (eqb a.head.number number) a (locate number l)
  one_more (Some b) a l = refl

  after : (f : Option CountedArea) (a : Area) (r : Read (List Area))
      → finish (found_means f) (bind r (λ l e. good (a ∷ l) e)) ≡ finish (found_means (kept f (counted_for number edges widths a) number)) r
  after f a (bad x) = refl
  after f a (good l e) = ap (λ (g : SoughtOf CountedArea). cond (eqb e (length s)) g (refused 3)) (one_more f a l)

pub search-starts : {s : List ℕ} {number : ℕ} {edges : List ℤ} {widths : List ℕ} {n first : ℕ}
    → Search s number edges widths n first 0 first 0 None
search-starts {s} {number} {edges} {widths} {n} {first} = search-begins s number edges widths n first

module _
    {s : List ℕ}
    {number : ℕ}
    {edges : List ℤ}
    {widths : List ℕ}
    {n first k position before : ℕ}
    {f : Option CountedArea}
    (w : Search s number edges widths n first k position before f)
  where
    -- a fault of area k refuses the map
    pub search-stops : {x : ℕ} → k < n → bad x ≡ map_read (counted_for number edges widths) (read_area s before position)
        → refused x ≡ seek (counted_area edges widths) number (read_rest s n first)
    unfolding read_areas
    search-stops h q =
        ap (finish s number edges widths (found_means f))
        (bind-bad _ (map-bad (counted_for number edges widths) (read_area s before position) q))
        ∙ ap (λ (m : ℕ). finish s number edges widths (found_means f) (read_areas s m before position)) (sym (sub-step n k h))
        ∙ sym w.left

    pub search-turns : {a : CountedArea} {g : Option CountedArea} → k < n
        → good a a.area.end ≡ map_read (counted_for number edges widths) (read_area s before position)
        → g ≡ kept f a number → Search s number edges widths n first (k + 1) a.area.end a.area.number g
    unfolding read_areas
    search-turns {a} {g} h q c = record {
      inside = omega arith;
      left = w.left
          ∙ ap (λ (m : ℕ). finish s number edges widths (found_means f) (read_areas s m before position)) (sub-step n k h)
          ∙ go (read_area s before position) q
          ∙ ap
          (λ (x : Option CountedArea). finish s number edges widths (found_means x) (read_areas s (n - (k + 1)) a.area.number a.area.end))
          (sym c);
    }
      where
        go : (r : Read Area) → good a a.area.end ≡ map_read (counted_for number edges widths) r
            → finish s number edges widths (found_means f)
            (bind r (λ x m. bind (read_areas s (n - (k + 1)) x.head.number m) (λ l e'. good (x ∷ l) e')))
            ≡ finish s number edges widths (found_means (kept f a number)) (read_areas s (n - (k + 1)) a.area.number a.area.end)
        go (bad x) v = cc
        go (good x m) v =
            let qa : a ≡ counted_for number edges widths x = cc in
            let qe : a.area.end ≡ m = cc in
            after s number edges widths f x (read_areas s (n - (k + 1)) x.head.number m)
            ∙ (λ i. finish s number edges widths (found_means (kept f (sym qa i) number))
            (read_areas s (n - (k + 1)) (sym qa i).area.number (sym qe i)))

    pub search-ends : n ≤ k
        → seek (counted_area edges widths) number (read_rest s n first) ≡ cond (eqb position (length s)) (found_means f) (refused 3)
    unfolding read_areas locate
    search-ends h =
        w.left
        ∙ ap (λ (m : ℕ). finish s number edges widths (found_means f) (read_areas s m before position)) (sub-end n k h)
        ∙ ap (λ (g : SoughtOf CountedArea). cond (eqb position (length s)) g (refused 3)) (or-lacking (found_means f))

-- ---- a look-up hands out the area alone

-- what is handed out of an area that was sought
abbrev pub bare : SoughtOf CountedArea → LookedUp
bare (refused f) = refused f
bare lacking = lacking
bare (has a) = has a.area

pub handed : {P : CountedArea → Handed → Type 0} (o : Option CountedArea) (r : Option Handed)
    → MatchOption o (r ≡ None) (λ x. IsSomeAnd r (P x)) → ((x : CountedArea) (y : Handed) → P x y → y ≡ x.area)
    → sought_means (Ok r) ≡ bare (sought_means (Ok o))
handed None r h f = ap (λ (x : Option Handed). sought_means (Ok x)) h
handed (Some a) None h f = absurd h
handed (Some a) (Some b) h f = ap has (f a b h)

pub look-up-is : (edges : List ℤ) (widths : List ℕ) (n : ℕ) (r : Read (List Area)) → bare (seek (counted_area edges widths) n r) ≡ look_up n r
unfolding seek look_up
look-up-is edges widths n (bad f) = refl
look-up-is edges widths n (good l e) = by (locate n l)
  where
    by : (g : Located) → bare (located_as (counted_area edges widths) g) ≡ located g
    by none = refl
    by (some a) = refl

-- ---- the check of a whole map

abbrev pub looked_number : LookedUp → ℕ
looked_number (refused f) = f
looked_number lacking = 0
looked_number (has a) = 0

pub accepted : (o : Option Handed) → 0 ≡ looked_number (sought_means (Ok o))
accepted None = refl
accepted (Some a) = refl

pub number_is : (n : ℕ) (r : Read (List Area)) → looked_number (look_up n r) ≡ number_of r
unfolding look_up
number_is n (bad f) = refl
number_is n (good l e) = by (locate n l)
  where
    by : (g : Located) → looked_number (located g) ≡ 0
    by none = refl
    by (some a) = refl
