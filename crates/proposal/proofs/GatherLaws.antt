-- What is gathered of the partial areas, one area a turn. Assumes nothing.
use Prim.Native.Nat.{ℕ, zero, suc, ◌+◌, ◌*◌, ◌<◌, ◌≤◌}
use mathlib.Core.Path.{◌≡◌, refl, sym, ap, ◌∙◌}
use mathlib.Core.Bool.{true, false, cond}
use mathlib.Core.List.{List, [], ◌∷◌, ◌++◌, map, append_assoc, append-nil}
use native.Mathlib.Nat.{mul_assoc, mul_left_comm, mul-le-mul}
use native.Mathlib.Numerals.{add-one}
use native.Mathlib.Omega.{arith}
use lib.Dec.{ltb, leb}
use lib.ListN.{length, get_or, take, drop, set, length-set, length-map, drop_of_length-le}
use lib.Seq.{take-suc-set}
use borrow.Author.Tests.{leb-false, lt-ltb, le-ltb}
use Rattle.lists.specs.Sums.{total, All}
use Rattle.lists.specs.Filters.{filter}
use Rattle.lists.proofs.Tests.{by-test, not-both}
use Rattle.lists.proofs.SumLaws.{all_get_d, drop-next}
use Rattle.coverage.specs.declared.Holding.{Holding}
use Rattle.units.specs.Sums.{capped}
use Rattle.units.proofs.Laws.{exact}
use Rattle.coverage.specs.declared.AreaBlocks.{AreaBlocks}
use Rattle.coverage.specs.Blocks.{remainder, rounds_up, partial, value, size, blocks_of}
use Rattle.coverage.specs.Limits.{Limits, in_limits}
use Rattle.coverage.specs.Answers.{no_blocks, no_holding}
use Rattle.coverage.proofs.BlockLaws.{blocks-exact, partial-sized, value-small, size_small}
use Rattle.search.specs.declared.Partial.{Partial}
use Rattle.search.specs.Choice.{largest_size, largest_weight}
use Rattle.search.specs.Proposal as searched
use Rattle.proposal.specs.declared.parts.Partials.{Partials}
use Rattle.proposal.specs.Choices.{partials, total_value}
use Rattle.proposal.specs.Code.{sizes, weights, asked_of, Bounded, Gathered}

-- ---- a partial area's value is below its size

partial-below : (a : Holding) → partial a ≡ true → remainder a < 99 * a.population.0
unfolding partial rounds_up
partial-below a h =
    by-test (leb (99 * a.population.0) (remainder a))
    (λ t. not-both h (simp t))
    (λ t. leb-false (99 * a.population.0) (remainder a) t)

value-below : (a : Holding) → partial a ≡ true → value a ≤ size a
unfolding value size
value-below a h =
    let r : remainder a ≤ 100 * a.population.0 = omega (arith, partial-below a h) in
    let w : a.weight ≤ a.weight = omega arith in
    omega (
      arith,
      mul-le-mul w r,
      mul_left_comm a.weight 100 a.population.0,
      mul_assoc 100 a.weight a.population.0,
    )

-- ---- S, one area after another

partials-yes : (a : Holding) (l : List Holding) → partial a ≡ true → partials (a ∷ l) ≡ a ∷ partials l
unfolding partials filter
partials-yes a l h = simp h

partials-no : (a : Holding) (l : List Holding) → partial a ≡ false → partials (a ∷ l) ≡ partials l
unfolding partials filter
partials-no a l h = simp h

partials-none : partials [] ≡ []
unfolding partials filter
partials-none = refl

total-more : (a : Holding) (l : List Holding) → total_value (a ∷ l) ≡ value a + total_value l
unfolding total_value
total-more a l = refl

total-none : total_value [] ≡ 0
unfolding total_value
total-none = refl

-- no value is above its size, so T is at most the sum of the sizes
pub fits : (areas : List Holding) → total_value (partials areas) ≤ total (λ m. m) (sizes (partials areas))
unfolding total_value
fits [] = rw partials-none (omega arith)
fits (a ∷ areas) =
    by-test (partial a)
    (λ t. rw (partials-yes a areas t) (omega (arith, value-below a t, fits areas)))
    (λ t. rw (partials-no a areas t) (fits areas))

-- the partial areas keep the search's limits
abbrev Within : List Holding → ℕ → Type 0
Within s j = (get_or (sizes s) j 0 ≤ largest_size) × (get_or (weights s) j 0 ≤ largest_weight)

within-limits : (areas : List Holding) → All Limits areas → (j : ℕ) → Within (partials areas) j
within-limits [] l j = rw partials-none (omega arith, omega arith)
within-limits (a ∷ areas) l j =
    by-test (partial a)
    (λ t. rw (partials-yes a areas t) (at j (within-limits areas l.1)))
    (λ t. rw (partials-no a areas t) (within-limits areas l.1 j))
  where
    at : (j : ℕ) → ((k : ℕ) → Within (partials areas) k) → Within (a ∷ partials areas) j
    at zero later = (size_small l.0, l.0.light)
    at (suc k) later = later k

-- what the search reads of S
asked-sizes : (s : List Holding) → searched.sizes (map asked_of s) ≡ sizes s
asked-sizes [] = refl
asked-sizes (a ∷ s) = ap (λ l. size a ∷ l) (asked-sizes s)

asked-weights : (s : List Holding) → searched.weights (map asked_of s) ≡ weights s
asked-weights [] = refl
asked-weights (a ∷ s) = ap (λ l. a.weight ∷ l) (asked-weights s)

module _ {areas : List Holding} {r : Partials} (g : Gathered areas r) where
  pub its-sizes : searched.sizes (take r.count r.areas) ≡ sizes (partials areas)
  its-sizes = ap searched.sizes g.each ∙ asked-sizes (partials areas)

  pub its-weights : searched.weights (take r.count r.areas) ≡ weights (partials areas)
  its-weights = ap searched.weights g.each ∙ asked-weights (partials areas)

  pub search-limits : All Limits areas → length (partials areas) ≤ 20
      → searched.Limits (searched.sizes (take r.count r.areas)) (searched.weights (take r.count r.areas))
  search-limits l few =
      rw (its-sizes, its-weights) (
      record {
        few = omega (arith, length-map (partials areas) size);
        pairs = length-map (partials areas) (λ (a : Holding). a.weight) ∙ sym (length-map (partials areas) size);
        sizes = λ j. (within-limits areas l j).0;
        weights = λ j. (within-limits areas l j).1;
      }
      )

-- ---- the loop

-- after i areas, n of them partial: t is the sum of their values, and ps begins with what the search reads of them
pub record Gathering (areas : List Holding) (i n t : ℕ) (ps : List Partial) : Type 0 where
  pub within : i ≤ length areas
  pub few : n ≤ i
  pub low : t ≤ i * largest_size
  pub room : length ps ≡ 32
  pub counted : n + length (partials (drop i areas)) ≡ length (partials areas)
  pub summed : t + total_value (partials (drop i areas)) ≡ total_value (partials areas)
  pub each : take n ps ++ map asked_of (partials (drop i areas)) ≡ map asked_of (partials areas)

-- one more stored at the end
stored : {A : Type 0} (l : List A) (n : ℕ) (x : A) (r : List A) → n < length l → take (n + 1) (set l n x) ++ r ≡ take n l ++ (x ∷ r)
stored l n x r h =
    ap (λ q. q ++ r) (ap (λ j. take j (set l n x)) (add-one n) ∙ take-suc-set l n x h) ∙ append_assoc (take n l) (x ∷ []) r

-- the areas that are given
module _ {areas : List Holding} (b : Bounded areas) where
  limits-at : {i : ℕ} → i < length areas → Limits (get_or areas i no_holding)
  limits-at {i} h = all_get_d Limits areas i no_holding b.limits h

  -- so the blocks of the area at place i are those of the definition
  pub blocks_at : {i : ℕ} → i < length areas → {x : AreaBlocks}
      → x ≡ cond (in_limits (get_or areas i no_holding)) (blocks_of (get_or areas i no_holding)) no_blocks
      → x ≡ blocks_of (get_or areas i no_holding)
  blocks_at h e = blocks-exact (limits-at h) e

  -- the area is partial exactly if its blocks have a size
  pub sized : {i : ℕ} → i < length areas → (x : AreaBlocks) → x ≡ blocks_of (get_or areas i no_holding)
      → partial (get_or areas i no_holding) ≡ ltb 0 x.size.0
  sized h x of = partial-sized (limits-at h) ∙ sym (ap (λ (y : AreaBlocks). ltb 0 y.size.0) of)

-- a turn: the area at place i, and `x` its blocks
module _ {areas : List Holding} {i n t : ℕ} {ps : List Partial} (b : Bounded areas) (g : Gathering areas i n t ps) (h : i < length areas)
    (x : AreaBlocks) (of : x ≡ blocks_of (get_or areas i no_holding)) where
  abbrev here : Holding
  here = get_or areas i no_holding

  -- a partial area: one more for the search, and its value added
  pub gather-takes : 0 < x.size.0 → {t' : ℕ} → t' ≡ capped (t + x.value.0)
      → Gathering areas (i + 1) (n + 1) t' (set ps n (record { size = x.size; weight = here.weight }))
  unfolding blocks_of
  gather-takes p {t'} sum =
      let later = partials (drop (i + 1) areas) in
      let yes : partial here ≡ true = sized b h x of ∙ lt-ltb 0 x.size.0 p in
      let e : partials (drop i areas) ≡ here ∷ later =
      ap (λ l. partials l) (drop-next areas i no_holding h) ∙ partials-yes here (drop (i + 1) areas) yes in
      let c = ap (λ l. length l) e in
      let v = ap (λ l. total_value l) e ∙ total-more here later in
      let xv : x.value.0 ≡ value here = ap (λ (y : AreaBlocks). y.value.0) of ∙ ap (λ q. cond q (value here) 0) yes in
      let xs : x.size.0 ≡ size here = ap (λ (y : AreaBlocks). y.size.0) of ∙ ap (λ q. cond q (size here) 0) yes in
      let asked : Partial = record { size = x.size; weight = here.weight } in
      let is : asked ≡ asked_of here = λ j. record { size = record { 0 = xs j }; weight = here.weight } in
      let small = value-small (limits-at b h) in
      let few = b.few in
      let low = g.low in
      let added : t' ≡ t + value here = sum ∙ ap (λ m. capped (t + m)) xv ∙ exact (t + value here) (omega arith) in
      record {
        within = omega arith;
        few = omega (arith, g.few);
        low = omega arith;
        room = length-set ps n asked ∙ g.room;
        counted = omega (arith, g.counted);
        summed = omega (arith, g.summed);
        each =
            stored ps n asked (map asked_of later) (omega (arith, g.few, g.room))
            ∙ ap (λ m. take n ps ++ (m ∷ map asked_of later)) is
            ∙ sym (ap (λ l. take n ps ++ map asked_of l) e)
            ∙ g.each;
      }

  -- any other area
  pub gather-leaves : x.size.0 ≤ 0 → Gathering areas (i + 1) n t ps
  gather-leaves p =
      let e : partials (drop i areas) ≡ partials (drop (i + 1) areas) =
      ap (λ l. partials l) (drop-next areas i no_holding h)
      ∙ partials-no here (drop (i + 1) areas) (sized b h x of ∙ le-ltb 0 x.size.0 p) in
      record {
        within = omega arith;
        few = omega (arith, g.few);
        low = omega (arith, g.low);
        room = g.room;
        counted = sym (ap (λ l. n + length l) e) ∙ g.counted;
        summed = sym (ap (λ l. t + total_value l) e) ∙ g.summed;
        each = sym (ap (λ l. take n ps ++ map asked_of l) e) ∙ g.each;
      }

-- the same state under other names
pub gather-as : {areas : List Holding} {i n n' t t' : ℕ} {ps ps' : List Partial} → Gathering areas i n t ps
    → n' ≡ n → t' ≡ t → ps' ≡ ps → Gathering areas i n' t' ps'
gather-as g en et ep = rw (en, et, ep) g

pub gather-ends : {areas : List Holding} {i n t : ℕ} {ps : List Partial} → Bounded areas → Gathering areas i n t ps → length areas ≤ i
    → Gathered areas (record { count = n; target = record { 0 = t }; areas = ps })
gather-ends {areas} {i} {n} {t} {ps} b g h =
    let e : partials (drop i areas) ≡ [] = ap (λ l. partials l) (drop_of_length-le areas {i = i} h) ∙ partials-none in
    let c = ap (λ l. length l) e in
    let v = ap (λ l. total_value l) e ∙ total-none in
    record {
      count = omega (arith, g.counted);
      target = omega (arith, g.summed);
      each = sym (append-nil (take n ps)) ∙ sym (ap (λ l. take n ps ++ map asked_of l) e) ∙ g.each;
      few = omega (arith, g.few, g.within, b.few);
      room = g.room;
    }
