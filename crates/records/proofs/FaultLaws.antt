-- The faults of a record: the loop that looks for the first, and what holds of a record without one. Assumes nothing.
use Prim.Native.Nat.{ℕ, zero, suc, ◌+◌, ◌%◌, ◌≤◌, ◌<◌, zero-le}
use mathlib.Core.Path.{◌≡◌, refl, sym, ap, subst, ◌∙◌}
use mathlib.Core.Bool.{Bool, true, false, cond, not}
use mathlib.Core.List.{List, [], ◌∷◌, map}
use native.Mathlib.Omega.{arith}
use lib.Dec.{ltb, leb, eqb}
use lib.ListN.{length, get_or, take, drop, drop_of_length-le}
use borrow.Author.Tests.{eqb-true, eqb-false, eq-eqb, ne_eqb, leb-true, lt-ltb}
use Rattle.lists.specs.Sums.{All}
use Rattle.lists.proofs.Tests.{by-test, first_of, second-of}
use Rattle.lists.proofs.SumLaws.{drop-next}
use Rattle.map.specs.Format.{within}
use Rattle.map.specs.Answers.{fault_number}
use Rattle.map.specs.declared.Fault.{Fault}
use Rattle.map.specs.declared.Fault.TheVariants.{Ends, Limit, Extra, Order, Population}
use Rattle.coverage.specs.declared.Holding.{Holding}
use Rattle.coverage.specs.Limits.{Limits}
use Rattle.proposal.specs.Answer.{refused_by, proposal}
use Rattle.proposal.specs.Code.{Bounded}
use Rattle.records.specs.declared.Kept.{Kept}
use Rattle.records.specs.declared.Record.{Record}
use Rattle.records.specs.Record.{no_kept, held, area_fault, areas_fault, record_fault, proposal_from}
use Rattle.records.specs.Code.{held_by}

-- ---- the loop over the areas

-- at area i: the first fault is that of the areas from i on, after the number of the one before
pub record Sound (areas : List Kept) (i before : ℕ) : Type 0 where
  pub within : i ≤ length areas
  pub left : areas_fault 0 areas ≡ areas_fault before (drop i areas)

pub sound-starts : (areas : List Kept) → Sound areas 0 0
sound-starts areas = record { within = omega arith; left = refl }

module _ {areas : List Kept} {i before : ℕ} (w : Sound areas i before) (h : i < length areas) where
  here : areas_fault 0 areas ≡ cond (eqb (area_fault before (get_or areas i no_kept)) 0)
      (areas_fault (get_or areas i no_kept).number (drop (i + 1) areas)) (area_fault before (get_or areas i no_kept))
  unfolding areas_fault
  here = w.left ∙ ap (areas_fault before) (drop-next areas i no_kept h)

  -- the area has a fault
  pub sound-stops : {n : ℕ} → n ≡ area_fault before (get_or areas i no_kept) → (n ≡ 0 → ⊥) → n ≡ areas_fault 0 areas
  sound-stops {n} e z =
      e ∙ sym (here ∙ simp (ne_eqb (area_fault before (get_or areas i no_kept)) 0 (λ q. z (e ∙ q))))

  -- the area has none
  pub sound-turns : {next : ℕ} → 0 ≡ area_fault before (get_or areas i no_kept) → next ≡ (get_or areas i no_kept).number
      → Sound areas (i + 1) next
  sound-turns {next} e q = record {
    within = omega arith;
    left = here ∙ (simp (eq-eqb (area_fault before (get_or areas i no_kept)) 0 (sym e)))
        ∙ ap (λ (b : ℕ). areas_fault b (drop (i + 1) areas)) (sym q);
  }

pub sound-ends : {areas : List Kept} {i before : ℕ} → Sound areas i before → length areas ≤ i → 0 ≡ areas_fault 0 areas
unfolding areas_fault
sound-ends {areas} {i} {before} w h = sym (w.left ∙ ap (areas_fault before) (drop_of_length-le areas h))

-- ---- a record without a fault

-- an area within document 01's limits
pub record InLimits (k : Kept) : Type 0 where
  pub number : k.number ≤ 416
  pub limits : Limits (held k)

passed : (a : Bool) (m n : ℕ) → cond (not a) (suc m) n ≡ 0 → (a ≡ true) × (n ≡ 0)
passed true m n e = (refl, e)
passed false m n e = absurd (omega arith)

in-limits : (before : ℕ) (k : Kept) → area_fault before k ≡ 0 → InLimits k
in-limits before k e =
    let (number, e1) = passed (within 1 416 k.number) 1 _ e in
    let (order, e2) = passed (ltb before k.number) 3 _ e1 in
    let (weight, e3) = passed (within 1 65_535 k.weight) 1 _ e2 in
    let (people, e4) = passed (within 1 40_000_000 k.population.0) 4 _ e3 in
    record {
      number = leb-true k.number 416 (second-of (leb 1 k.number) (leb k.number 416) number);
      limits = record {
        heavy = leb-true 1 k.weight (first_of (leb 1 k.weight) (leb k.weight 65_535) weight);
        light = leb-true k.weight 65_535 (second-of (leb 1 k.weight) (leb k.weight 65_535) weight);
        peopled = leb-true 1 k.population.0 (first_of (leb 1 k.population.0) (leb k.population.0 40_000_000) people);
        small = leb-true k.population.0 40_000_000
            (second-of (leb 1 k.population.0) (leb k.population.0 40_000_000) people);
      };
    }

pub all-in-limits : (before : ℕ) (l : List Kept) → areas_fault before l ≡ 0 → All InLimits l
unfolding areas_fault
all-in-limits before [] e = tt
all-in-limits before (k ∷ l) e =
    by-test (eqb (area_fault before k) 0)
    (λ t. (in-limits before k (eqb-true (area_fault before k) 0 t), all-in-limits k.number l (simp t at e)))
    (λ t. absurd (eqb-false (area_fault before k) 0 t (simp t at e)))

-- its areas as a proposal reads them
pub held-areas : (l : List Kept) → All InLimits l → map held_by l ≡ map held l
held-areas [] h = refl
held-areas (k ∷ l) h =
    let small = h.0.number in
    let fits : k.number % 65536 ≡ k.number = omega arith in
    λ i. record {
      number = fits i;
      weight = k.weight;
      population = k.population;
      covered = k.mhz_pops;
      cells = k.cells;
    } ∷ held-areas l h.1 i

held-limits : (l : List Kept) → All InLimits l → All Limits (map held l)
held-limits [] h = tt
held-limits (k ∷ l) h = (h.0.limits, held-limits l h.1)

take-map : {A B : Type 0} (f : A → B) (n : ℕ) (l : List A) → take n (map f l) ≡ map f (take n l)
take-map f zero l = refl
take-map f (suc n) [] = refl
take-map f (suc n) (a ∷ l) = ap (λ m. f a ∷ m) (take-map f n l)

-- a record without a fault: its count and its areas are within the limits
pub no-fault : (r : Record) → record_fault r ≡ 0 → (within 1 32 r.count ≡ true) × All InLimits (take r.count r.areas)
no-fault r e =
    by-test (within 1 32 r.count)
    (λ t. (t, all-in-limits 0 (take r.count r.areas) (simp t at e)))
    (λ t. absurd (let z : 2 ≡ 0 = simp t at e in omega arith))

-- what a proposal asks of them
pub record-bounded : (r : Record) → record_fault r ≡ 0
    → Bounded (take r.count (map held_by r.areas)) × (take r.count (map held_by r.areas) ≡ map held (take r.count r.areas))
record-bounded r z =
    let (count, all) = no-fault r z in
    let few = leb-true r.count 32 (second-of (leb 1 r.count) (leb r.count 32) count) in
    let same = take-map held_by r.count r.areas ∙ held-areas (take r.count r.areas) all in (
      record {
        few = omega (arith, few, take-most r.count (map held_by r.areas));
        limits = subst (All Limits) (sym same) (held-limits (take r.count r.areas) all);
      },
      same,
    )
  where
    take-most : {A : Type 0} (n : ℕ) (l : List A) → length (take n l) ≤ n
    take-most zero l = zero-le
    take-most (suc n) [] = zero-le
    take-most (suc n) (a ∷ l) = let later = take-most n l in omega arith

-- ---- the fault of an area that has none

pub fault-none : (before : ℕ) (k : Kept) → within 1 416 k.number ≡ true → before < k.number → within 1 65_535 k.weight ≡ true
    → within 1 40_000_000 k.population.0 ≡ true → 0 ≡ area_fault before k
fault-none before k n o w p = simp (n, lt-ltb before k.number o, w, p)

-- ---- the fault of a record

-- no fault has the number 0
pub numbered : (f : Fault) → fault_number f ≡ 0 → ⊥
numbered Ends e = omega arith
numbered Limit e = omega arith
numbered Extra e = omega arith
numbered Order e = omega arith
numbered Population e = omega arith

module _ (r : Record) where
  pub fault-areas : within 1 32 r.count ≡ true → {n : ℕ} → n ≡ areas_fault 0 (take r.count r.areas) → n ≡ record_fault r
  fault-areas t e = e ∙ (simp t)

  -- the proposal from it
  module _ (draw : ℕ) where
    pub from-fault : {n : ℕ} → n ≡ record_fault r → (n ≡ 0 → ⊥) → refused_by n ≡ proposal_from r draw
    unfolding proposal_from
    from-fault {n} e z = ap refused_by e ∙ (simp (ne_eqb (record_fault r) 0 (λ q. z (e ∙ q))))

    pub from-areas : {hs : List Holding} → record_fault r ≡ 0 → hs ≡ map held (take r.count r.areas)
        → proposal hs draw ≡ proposal_from r draw
    unfolding proposal_from
    from-areas z e = ap (λ hs. proposal hs draw) e ∙ (simp (eq-eqb (record_fault r) 0 z))
