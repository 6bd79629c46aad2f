-- The subset rule takes one set and no other: laws for lists of any length, whatever ranked the candidates. Assumes nothing.
use Prim.Native.Nat.{ℕ, ◌-◌, ◌≤◌}
use mathlib.Core.Path.{◌≡◌, sym, ◌∙◌}
use mathlib.Core.Bool.{Bool, false}
use mathlib.Core.List.{List, Memᴰ}
use native.Mathlib.Nat.{le_antisymm}
use native.Mathlib.Omega.{arith}
use lib.Dec.{ltb, leb}
use lib.ListN.{length, replicate, length-replicate}
use borrow.Author.Tests.{ltb-false, le-ltb, leb-true, le-leb}
use Rattle.lists.specs.Filters.{foremost}
use Rattle.lists.proofs.FilterLaws.{mem-filter, filter-mem, mem-foremost, foremost-mem, foremost-some, least-some, first-in}
use Rattle.subset.specs.Sets.{set_number, total_of, sets}
use Rattle.subset.specs.Rule.{smallest, greatest, within, the_subset, Chosen}
use Rattle.subset.proofs.SetLaws.{in-sets, sets-length, number_same, total-none}

-- ---- the smallest set number of some candidates

module _ {A : Type 0} (set_of : A → List Bool) (other : A) (l : List A) where
  abbrev number : A → ℕ
  number a = set_number (set_of a)

  smallest-foremost : (a : A) → Memᴰ a l → Memᴰ (smallest set_of other l) (foremost (λ a b. ltb (number a) (number b)) l)
  unfolding smallest
  smallest-foremost a m =
      let r = foremost-some number l a m in
      first-in other (foremost (λ (a b : A). ltb (number a) (number b)) l) r.0 r.1

  -- it is a candidate
  pub smallest-in : (a : A) → Memᴰ a l → Memᴰ (smallest set_of other l) l
  smallest-in a m =
      (mem-foremost (λ (a b : A). ltb (number a) (number b)) l (smallest set_of other l) (smallest-foremost a m)).0

  -- and no candidate has a smaller set number
  pub smallest-least : (a : A) → Memᴰ a l → set_number (set_of (smallest set_of other l)) ≤ set_number (set_of a)
  smallest-least a m =
      ltb-false (number a) (number (smallest set_of other l))
      ((mem-foremost (λ (a b : A). ltb (number a) (number b)) l (smallest set_of other l) (smallest-foremost a m)).1 a m)

  -- where no two candidates share a set number, it is the one that has the smallest
  pub smallest-only : (a : A) → Memᴰ a l → ((b : A) → Memᴰ b l → set_number (set_of a) ≤ set_number (set_of b))
      → ((b c : A) → Memᴰ b l → Memᴰ c l → set_number (set_of b) ≡ set_number (set_of c) → b ≡ c)
      → smallest set_of other l ≡ a
  smallest-only a m least distinct =
      distinct (smallest set_of other l) a (smallest-in a m) m
      (le_antisymm (smallest-least a m) (least (smallest set_of other l) (smallest-in a m)))

-- ---- the greatest total within a limit

module _ (values : List ℕ) (limit : ℕ) where
  abbrev none : List Bool
  none = replicate (length values) false

  -- the sets within the limit
  in_within : (set : List Bool) → length set ≡ length values → total_of values set ≤ limit → Memᴰ set (within values limit)
  unfolding within
  in_within set n h =
      filter-mem (λ (s : List Bool). leb (total_of values s) limit) (sets (length values)) set
      (in-sets (length values) set n) (le-leb (total_of values set) limit h)

  of-within : (set : List Bool) → Memᴰ set (within values limit) → (length set ≡ length values) × (total_of values set ≤ limit)
  unfolding within
  of-within set m =
      let r = mem-filter (λ (s : List Bool). leb (total_of values s) limit) (sets (length values)) set m in
      (sets-length (length values) set r.0, leb-true (total_of values set) limit r.1)

  -- those of greatest total
  in-greatest : (set : List Bool) → Memᴰ set (within values limit)
      → ((s : List Bool) → Memᴰ s (within values limit) → total_of values s ≤ total_of values set)
      → Memᴰ set (greatest values (within values limit))
  unfolding greatest
  in-greatest set m h =
      foremost-mem (λ (a b : List Bool). ltb (total_of values b) (total_of values a)) (within values limit) set m
      (λ s n. le-ltb (total_of values set) (total_of values s) (h s n))

  of-greatest : (set : List Bool) → Memᴰ set (greatest values (within values limit))
      → Memᴰ set (within values limit)
      × ((s : List Bool) → Memᴰ s (within values limit) → total_of values s ≤ total_of values set)
  unfolding greatest
  of-greatest set m =
      let r = mem-foremost (λ (a b : List Bool). ltb (total_of values b) (total_of values a)) (within values limit) set m in
      (r.0, λ s n. ltb-false (total_of values set) (total_of values s) (r.1 s n))

  -- there is one: the set of nothing is within every limit, so some set leaves least of the limit
  greatest-some : (set : List Bool) × Memᴰ set (greatest values (within values limit))
  greatest-some =
      let empty = in_within none (length-replicate (length values) false) (omega (arith, total-none values (length values))) in
      let r = least-some (λ (s : List Bool). limit - total_of values s) (within values limit) none empty in (
        r.0,
        in-greatest r.0 r.1 (λ s n. omega (
          arith,
          (of-within s n).1,
          (of-within r.0 r.1).1,
          ltb-false (limit - total_of values s) (limit - total_of values r.0) (r.2 s n),
        )),
      )

  -- ---- the rule

  theirs : Memᴰ (the_subset values limit) (greatest values (within values limit))
  unfolding the_subset
  theirs = smallest-in (λ s. s) none (greatest values (within values limit)) greatest-some.0 greatest-some.1

  -- a set that the rule asks for is one of the greatest
  of-chosen : (set : List Bool) → Chosen values limit set → Memᴰ set (greatest values (within values limit))
  of-chosen set c =
      in-greatest set (in_within set c.each c.within)
      (λ s m. c.greatest s (of-within s m).0 (of-within s m).1)

  -- the rule's set has what the rule asks
  the-least : (s : List Bool) → length s ≡ length values → total_of values s ≡ total_of values (the_subset values limit)
      → set_number (the_subset values limit) ≤ set_number s
  unfolding the_subset
  the-least s n e =
      let t = of-greatest (the_subset values limit) theirs in
      smallest-least (λ s. s) none (greatest values (within values limit)) s
      (in-greatest s (in_within s n (omega (arith, e, (of-within (the_subset values limit) t.0).1)))
      (λ q m. omega (arith, e, t.1 q m)))

  pub the-subset-chosen : Chosen values limit (the_subset values limit)
  the-subset-chosen =
      let t = of-greatest (the_subset values limit) theirs in
      let w = of-within (the_subset values limit) t.0 in
      record {
        each = w.0;
        within = w.1;
        greatest = λ s n h. t.1 s (in_within s n h);
        least = the-least;
      }

  -- and only it has
  pub chosen-only : (set : List Bool) → Chosen values limit set → set ≡ the_subset values limit
  unfolding the_subset
  chosen-only set c = sym (smallest-only (λ s. s) none (greatest values (within values limit)) set (of-chosen set c) smaller same)
    where
      Theirs : List Bool → Type 0
      Theirs s = Memᴰ s (greatest values (within values limit))

      fits : (s : List Bool) → Theirs s → (length s ≡ length values) × (total_of values s ≤ limit)
      fits s m = of-within s (of-greatest s m).0

      smaller : (s : List Bool) → Theirs s → set_number set ≤ set_number s
      smaller s m =
          c.least s (fits s m).0
          (le_antisymm
          ((of-greatest set (of-chosen set c)).1 s (of-greatest s m).0)
          ((of-greatest s m).1 set (of-greatest set (of-chosen set c)).0))

      same : (a b : List Bool) → Theirs a → Theirs b → set_number a ≡ set_number b → a ≡ b
      same a b m n e = number_same a b ((fits a m).0 ∙ sym (fits b n).0) e
