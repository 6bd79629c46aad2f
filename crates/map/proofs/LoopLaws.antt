-- Laws of the loops that read one item after another. Assumes nothing.
use Rattle.std.proofs.Common.{◌≡◌, ℕ, suc, ◌+◌, ◌-◌, ◌*◌, ◌<◌, ◌≤◌, Bool, false, not, ◌&&◌, List, [], ◌∷◌, ℤ, sym, refl, ap, ◌∙◌}
use Rattle.std.proofs.Common.{subst, add-zero, add_assoc, mul-le-mul_left, zero-add, mul-suc, add-one, arith, Result, Ok, Err, IfOk}
use Rattle.units.proofs.Laws.{exact}
use Rattle.map.specs.declared.parts.Counts.{Counts}
use Rattle.map.specs.declared.Fault.{Fault}
use Rattle.map.specs.Reading.{Read, bad, good, bind, map_read, many}
use Rattle.map.specs.Format.{bit_at, clear_from}
use Rattle.map.specs.Counting.{row_counts, grid_counts, counts, no_counts, sum, capped_sum, Small}

pub sub-step : (n j : ℕ) → j < n → n - j ≡ suc (n - (j + 1))
sub-step n j h = omega arith

pub sub-end : (n j : ℕ) → n ≤ j → n - j ≡ 0
sub-end n j h = omega arith

-- ---- the bits j .. n - 1 of a bit map are 0

module _ (s : List ℕ) (bits n j : ℕ) where
  pub clear_step : j < n → bit_at s bits j ≡ false → clear_from s bits j (n - j) ≡ clear_from s bits (j + 1) (n - (j + 1))
  unfolding clear_from
  clear_step h e =
      ap (clear_from s bits j) (sub-step n j h) ∙ ap (λ (t : Bool). not t && clear_from s bits (j + 1) (n - (j + 1))) e

-- ---- sums of counts

sum_first : (c : Counts) → c ≡ sum no_counts c
sum_first c = λ i.
    counts (sym (zero-add c.people.0) i) (sym (zero-add c.cells.0) i) (sym (zero-add c.boxed_mhz_pops.0) i)
    (sym (zero-add c.boxed_cells.0) i)

sum-last : (c : Counts) → sum c no_counts ≡ c
sum-last c = λ i.
    counts (add-zero c.people.0 i) (add-zero c.cells.0 i) (add-zero c.boxed_mhz_pops.0 i)
    (add-zero c.boxed_cells.0 i)

sum-assoc : (a b c : Counts) → sum a (sum b c) ≡ sum (sum a b) c
sum-assoc a b c = λ i.
    counts (sym (add_assoc a.people.0 b.people.0 c.people.0) i)
    (sym (add_assoc a.cells.0 b.cells.0 c.cells.0) i)
    (sym (add_assoc a.boxed_mhz_pops.0 b.boxed_mhz_pops.0 c.boxed_mhz_pops.0) i)
    (sym (add_assoc a.boxed_cells.0 b.boxed_cells.0 c.boxed_cells.0) i)

pub small-none : (n : ℕ) → Small n no_counts
small-none n = record { people = omega arith; cells = omega arith; boxed-mhz-pops = omega arith; boxed-cells = omega arith }

pub small-sum : {m n : ℕ} {a b : Counts} → Small m a → Small n b → Small (m + n) (sum a b)
small-sum h k = record {
  people = omega (arith, h.people, k.people);
  cells = omega (arith, h.cells, k.cells);
  boxed-mhz-pops = omega (arith, h.boxed-mhz-pops, k.boxed-mhz-pops);
  boxed-cells = omega (arith, h.boxed-cells, k.boxed-cells);
}

pub small-more : {m n : ℕ} {c : Counts} → m ≤ n → Small m c → Small n c
small-more l h = record {
  people = omega (arith, h.people);
  cells = omega (arith, h.cells);
  boxed-mhz-pops = omega (arith, h.boxed-mhz-pops);
  boxed-cells = omega (arith, h.boxed-cells);
}

-- what was counted, if it was, is small for more places too
pub counts_more : {m n : ℕ} → m ≤ n → (r : Result (Counts × ℕ) Fault) → IfOk r (λ t. Small m t.0) → IfOk r (λ t. Small n t.0)
counts_more l (Ok t) h = small-more l h
counts_more l (Err f) h = h

-- the counts of 65,536 places are exact
sum-exact : {n : ℕ} (a b : Counts) → n ≤ 65536 → Small n (sum a b) → capped_sum a b ≡ sum a b
sum-exact {n} a b l h = λ i.
    counts (exact (a.people.0 + b.people.0) (omega (arith, h.people)) i)
    (exact (a.cells.0 + b.cells.0) (omega (arith, h.cells)) i)
    (exact (a.boxed_mhz_pops.0 + b.boxed_mhz_pops.0) (omega (arith, h.boxed-mhz-pops)) i)
    (exact (a.boxed_cells.0 + b.boxed_cells.0) (omega (arith, h.boxed-cells)) i)

-- ---- the counts of items that are read one after another

abbrev pub add_read : Counts → Read Counts → Read Counts
add_read c (bad x) = bad x
add_read c (good d e) = good (sum c d) e

-- what is counted of a list is counted of its first element and of the others
pub record Adds {A : Type 0} (f : A → Counts) (all : List A → Counts) : Type 0 where
  pub none : all [] ≡ no_counts
  pub more : (a : A) (l : List A) → all (a ∷ l) ≡ sum (f a) (all l)

module _ {A : Type 0} (item : ℕ → ℕ → Read A) (f : A → Counts) (all : List A → Counts) (adds : Adds f all) where
  -- what is left of reading n items, at item j, with acc counted so far
  abbrev pub rest : ℕ → ℕ → ℕ → Counts → Read Counts
  rest n j at acc = add_read acc (map_read all (many item (n - j) j at))

  counted : (acc : Counts) (a : A) (r : Read (List A))
      → add_read acc (map_read all (bind r (λ l e. good (a ∷ l) e))) ≡ add_read (sum acc (f a)) (map_read all r)
  counted acc a (bad x) = refl
  counted acc a (good l e) = ap (λ (k : Counts). good k e) (ap (sum acc) (adds.more a l) ∙ sum-assoc acc (f a) (all l))

  after-good : (n j : ℕ) (acc p : Counts) (e : ℕ) (r : Read A) → good p e ≡ map_read f r
      → add_read acc (map_read all (bind r (λ a m. bind (many item n (j + 1) m) (λ l e. good (a ∷ l) e))))
      ≡ add_read (sum acc p) (map_read all (many item n (j + 1) e))
  after-good n j acc p e (bad x) q = cc
  after-good n j acc p e (good a m) q =
      let qp : p ≡ f a = cc in
      let qe : e ≡ m = cc in
      counted acc a (many item n (j + 1) m)
      ∙ (λ i. add_read (sum acc (sym qp i)) (map_read all (many item n (j + 1) (sym qe i))))

  rest-good : (n j at : ℕ) (acc : Counts) {p : Counts} {e : ℕ} → j < n → good p e ≡ map_read f (item j at)
      → rest n j at acc ≡ rest n (j + 1) e (sum acc p)
  unfolding many
  rest-good n j at acc {p} {e} h q =
      ap (λ (k : ℕ). add_read acc (map_read all (many item k j at))) (sub-step n j h)
      ∙ after-good (n - (j + 1)) j acc p e (item j at) q

  rest-bad : (n j at : ℕ) (acc : Counts) {x : ℕ} → j < n → bad x ≡ map_read f (item j at) → bad x ≡ rest n j at acc
  unfolding many
  rest-bad n j at acc {x} h q =
      go (item j at) q ∙ ap (λ (k : ℕ). add_read acc (map_read all (many item k j at))) (sym (sub-step n j h))
    where
      go : (r : Read A) → bad x ≡ map_read f r
          → bad x ≡ add_read acc (map_read all (bind r (λ a m. bind (many item (n - (j + 1)) (j + 1) m) (λ l e. good (a ∷ l) e))))
      go (bad y) w = cc
      go (good a m) w = cc

  rest_end : (n j at : ℕ) (acc : Counts) → n ≤ j → rest n j at acc ≡ good acc at
  unfolding many
  rest_end n j at acc h =
      ap (λ (k : ℕ). add_read acc (map_read all (many item k j at))) (sub-end n j h)
      ∙ ap (λ (k : Counts). good k at) (ap (sum acc) adds.none ∙ sum-last acc)

  -- the invariant of such a loop, at item j of n: each item has at most `most` places
  pub record Walk (most n start j at : ℕ) (acc : Counts) : Type 0 where
    pub inside : j ≤ n
    pub small : Small (most * j) acc
    pub left : map_read all (many item n 0 start) ≡ rest n j at acc

module _
    {A : Type 0}
    {item : ℕ → ℕ → Read A}
    {f : A → Counts}
    {all : List A → Counts}
    {adds : Adds f all}
    {most n start j at : ℕ}
    {acc : Counts}
    (w : Walk item f all adds most n start j at acc)
  where
    -- a fault at item j is the fault of the whole
    pub walk-stops : {x : ℕ} → j < n → bad x ≡ map_read f (item j at) → bad x ≡ map_read all (many item n 0 start)
    walk-stops h q = rest-bad item f all adds n j at acc h q ∙ sym w.left

    -- item j adds c
    pub walk-turns : {c r : Counts} {e : ℕ} → j < n → most * n ≤ 65536 → good c e ≡ map_read f (item j at) → Small most c
        → r ≡ capped_sum acc c → Walk item f all adds most n start (j + 1) e r
    walk-turns {c} {r} {e} h b q m x =
        let grows : most * (j + 1) ≡ most * j + most = rw (add-one, mul-suc) in
        let more : most * (j + 1) ≤ most * n = mul-le-mul_left most (omega arith) in
        let small : Small (most * (j + 1)) (sum acc c) = subst (λ (k : ℕ). Small k (sum acc c)) (sym grows) (small-sum w.small m) in
        let is : r ≡ sum acc c = x ∙ sum-exact acc c (omega arith) small in
        record {
          inside = omega arith;
          small = subst (Small (most * (j + 1))) (sym is) small;
          left = w.left ∙ rest-good item f all adds n j at acc h q ∙ ap (rest item f all adds n (j + 1) e) (sym is);
        }

    pub walk_ends : n ≤ j → good acc at ≡ map_read all (many item n 0 start)
    walk_ends h = sym (w.left ∙ rest_end item f all adds n j at acc h)

-- ---- the loop of the walk: the rows of a grid

pub grid-adds : (edges : List ℤ) (widths : List ℕ) → Adds (row_counts edges widths) (grid_counts edges widths)
grid-adds edges widths = record { none = refl; more = λ a l. refl }
