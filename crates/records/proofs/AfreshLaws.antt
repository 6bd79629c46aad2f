-- A record that is kept is the one counted afresh: sums added and subtracted, how large they get, and the proposal. Assumes nothing.
use Prim.Native.Nat.{ℕ, zero, suc, ◌+◌, ◌-◌, ◌*◌, ◌≤◌, zero-le}
use mathlib.Core.Path.{◌≡◌, refl, sym, ap, ◌∙◌, fun_ext}
use mathlib.Core.Bool.{true, cond}
use mathlib.Core.List.{List, [], ◌∷◌, ◌++◌, map, map-map, Memᴰ}
use native.Mathlib.Omega.{arith}
use native.Mathlib.Nat.{mul-le-mul, mul-zero}
use lib.Dec.{leb, eqb}
use lib.ListN.{length, get_or, take, drop, replicate, length-map}
use lib.Seq.{take_at, drop_at}
use borrow.Author.Tests.{le-leb, eq-eqb}
use Rattle.lists.specs.Sums.{total, All}
use Rattle.lists.proofs.Tests.{by-test, both}
use Rattle.lists.proofs.SumLaws.{total-le}
use Rattle.lists.proofs.FilterLaws.{map_same}
use Rattle.units.proofs.Laws.{exact}
use Rattle.map.specs.Format.{Place, gap, cell, Area, within, people_at, population}
use Rattle.map.specs.Answers.{Located, none, some, locate}
use Rattle.map.specs.Accepted.{Within, AreaHolds, Ascending, MapHolds}
use Rattle.map.specs.Counting.{cells_at}
use Rattle.map.proofs.CountLaws.{area_small}
use Rattle.map.proofs.Accepted.{accepted, located-self}
use Rattle.register.specs.declared.Licence.{Licence}
use Rattle.register.specs.declared.FlatLicence.{FlatLicence}
use Rattle.register.specs.Licences.{licence_of, has_sign, in_force, struck}
use Rattle.register.specs.Sums.{SameLicences}
use Rattle.coverage.specs.Cover.{covers, people_under, people_by, covered_by, coverage, cell_under, cells_by, sum_of_cells}
use Rattle.coverage.specs.declared.CoverageSums.{CoverageSums}
use Rattle.coverage.proofs.SameLaws.{same-sums}
use Rattle.records.specs.declared.Kept.{Kept}
use Rattle.records.specs.declared.Record.{Record}
use Rattle.records.specs.Record.{no_kept, record_by, with_sums, added_in, subtracted_in, added, subtracted, entries, changed, held}
use Rattle.records.specs.Record.{area_fault, areas_fault, record_fault}
use Rattle.records.specs.Afresh.{kept_for, counted_afresh, AsOverMap, NoneStops, Fits, Untouched}
use Rattle.records.specs.Afresh.{GrantLeavesUntouched, CancelLeavesUntouched}
use Rattle.records.proofs.FaultLaws.{fault-none, from-areas}

-- the same licences in another order
pub same-counted : (xs ys : List Licence) → SameLicences xs ys → (areas : List Area) → counted_afresh xs areas ≡ counted_afresh ys areas
same-counted xs ys same areas = ap (λ (f : Area → Kept). record_by f areas) (fun_ext each)
  where
    each : (a : Area) → kept_for xs a ≡ kept_for ys a
    each a = ap (λ (s : CoverageSums). with_sums (kept_for [] a) s.mhz_pops.0 s.cells.0) (same-sums xs ys same a)

-- ---- the entries of a record counted afresh

-- each changed, where there is one for each area
changed-each : (f : Area → Kept) (g : Kept → Kept) (h : Area → Kept) (areas : List Area) → length areas ≤ 32
    → ((a : Area) → Memᴰ a areas → g (f a) ≡ h a)
    → changed g (record { count = length areas; areas = map f areas ++ replicate (32 - length areas) no_kept })
    ≡ record { count = length areas; areas = map h areas ++ replicate (32 - length areas) no_kept }
changed-each f g h areas few same =
    let blank = replicate (32 - length areas) no_kept in
    let all = map f areas ++ blank in
    let n : cond (leb (length areas) 32) (length areas) 32 ≡ length areas = simp (le-leb (length areas) 32 few) in
    λ i. record {
      count = length areas;
      areas = (
          (λ j. map g (take (n j) all) ++ drop (n j) all)
          ∙ (λ j. map g (take_at (map f areas) blank (length areas) (length-map areas f) j)
          ++ drop_at (map f areas) blank (length areas) (length-map areas f) j)
          ∙ ap (λ l. l ++ blank) (map-map g f areas ∙ map_same (λ a. g (f a)) h areas same)
          ) i;
    }

-- an area's own entry, by its number
module _ {s : List ℕ} {areas : List Area} (holds : MapHolds s areas) where
  -- sums added: so much more is covered, and no sum stops
  pub added-counted : (lines more after : List Licence)
      → ((a : Area) → coverage lines a + coverage more a ≡ coverage after a)
      → ((a : Area) → sum_of_cells lines a + sum_of_cells more a ≡ sum_of_cells after a)
      → ((a : Area) → Memᴰ a areas → NoneStops lines more a)
      → changed (added more areas) (counted_afresh lines areas) ≡ counted_afresh after areas
  added-counted lines more after c n fits =
      changed-each (kept_for lines) (added more areas) (kept_for after) areas holds.count.1 (λ a m.
      ap (added_in more (kept_for lines a)) (located-self 0 areas holds.ascending a m)
      ∙ (λ i. with_sums (kept_for lines a)
      ((exact (coverage lines a + coverage more a) (fits a m).mhz-pops ∙ c a) i)
      ((exact (sum_of_cells lines a + sum_of_cells more a) (fits a m).cells ∙ n a) i)))

  -- sums subtracted: so much less is covered
  pub subtracted-counted : (lines fewer after : List Licence)
      → ((a : Area) → coverage lines a ≡ coverage fewer a + coverage after a)
      → ((a : Area) → sum_of_cells lines a ≡ sum_of_cells fewer a + sum_of_cells after a)
      → changed (subtracted fewer areas) (counted_afresh lines areas) ≡ counted_afresh after areas
  subtracted-counted lines fewer after c n =
      changed-each (kept_for lines) (subtracted fewer areas) (kept_for after) areas holds.count.1 (λ a m.
      ap (subtracted_in fewer (kept_for lines a)) (located-self 0 areas holds.ascending a m)
      ∙ (λ i. with_sums (kept_for lines a)
      (less (coverage lines a) (coverage fewer a) (coverage after a) (c a) i)
      (less (sum_of_cells lines a) (sum_of_cells fewer a) (sum_of_cells after a) (n a) i)))
    where
      less : (x y z : ℕ) → x ≡ y + z → x - y ≡ z
      less x y z e = omega arith

-- ---- how large sums get

-- a licence in force covers no more than there is, and is at most 50 MHz wide
people-most : (a : Area) (l : Licence) → people_by a l ≤ population a.grid
people-most a l = total-le (total-le here) a.grid
  where
    here : (p : Place) → people_under l a.head.number p ≤ people_at p
    here gap = zero-le
    here (cell c) =
        by-test (covers l.ground a.head.number c) (λ t. simp t (omega arith)) (λ t. simp t (omega arith))

-- so many licences of a register cover at most so much
module _ {s : List ℕ} {a : Area} (h : AreaHolds s a) where
  covered-most : (ps : List FlatLicence) → coverage (in_force ps) a ≤ 2_000_000_000 * length (in_force ps)
  covered-most [] = zero-le
  covered-most (p ∷ ps) =
      let later = covered-most ps in
      let people = people-most a (licence_of p) in
      let few = h.peopled.1 in
      let wide : (licence_of p).width ≤ 50 = omega arith in
      let here : covered_by a (licence_of p) ≤ 50 * 40_000_000 = mul-le-mul {m₂ = 40_000_000} wide (omega arith) in
      by-test (has_sign 0 (licence_of p)) (λ t. simp t later) (λ t. simp t (omega arith))

  cells-most : (l : Licence) → cells_by a l ≤ 65536
  cells-most l =
      let most = total-le (total-le here) a.grid in
      let small = (area_small [] [] (omega arith) (λ i b. absurd (omega arith)) h).cells in
      omega arith
    where
      here : (p : Place) → cell_under l a.head.number p ≤ cells_at p
      here gap = zero-le
      here (cell c) =
          by-test (covers l.ground a.head.number c) (λ t. simp t (omega arith)) (λ t. simp t (omega arith))

  sum-of-cells-most : (ls : List Licence) → sum_of_cells ls a ≤ 65536 * length ls
  sum-of-cells-most [] = zero-le
  sum-of-cells-most (l ∷ ls) = let later = sum-of-cells-most ls in let here = cells-most l in omega arith

  -- sums that come to those of at most 64 licences of a register do not stop
  pub none-stops : (lines more : List Licence) (ps : List FlatLicence) → length (in_force ps) ≤ 64
      → coverage lines a + coverage more a ≡ coverage (in_force ps) a
      → sum_of_cells lines a + sum_of_cells more a ≡ sum_of_cells (in_force ps) a → NoneStops lines more a
  none-stops lines more ps few c n =
      let most = covered-most ps in
      let cells = sum-of-cells-most (in_force ps) in
      record { mhz-pops = omega arith; cells = omega arith }

-- ---- the proposal

-- areas in order and within the limits have no fault
no-faults : (ls : List Licence) (s : List ℕ) (before : ℕ) (areas : List Area) → Ascending before areas → All (AreaHolds s) areas
    → areas_fault before (map (kept_for ls) areas) ≡ 0
unfolding areas_fault
no-faults ls s before [] up each = refl
no-faults ls s before (a ∷ areas) up each =
    let h = each.0 in
    let none = fault-none before (kept_for ls a)
    (in-range 1 416 a.head.number h.number)
    up.0
    (in-range 1 65_535 a.head.weight h.weight)
    (in-range 1 40_000_000 (population a.grid) h.peopled) in
    simp (eq-eqb (area_fault before (kept_for ls a)) 0 (sym none)) (no-faults ls s a.head.number areas up.1 each.1)
  where
    in-range : (low high n : ℕ) → Within low high n → within low high n ≡ true
    in-range low high n w = both (le-leb low n w.0) (le-leb n high w.1)

pub as-over-map : AsOverMap
as-over-map s areas end reads ls draw =
    let holds = accepted s areas end reads in
    let blank = replicate (32 - length areas) no_kept in
    let all : take (length areas) (map (kept_for ls) areas ++ blank) ≡ map (kept_for ls) areas =
    take_at (map (kept_for ls) areas) blank (length areas) (length-map areas (kept_for ls)) in
    let count : within 1 32 (length areas) ≡ true =
    both (le-leb 1 (length areas) holds.count.0) (le-leb (length areas) 32 holds.count.1) in
    let none : record_fault (counted_afresh ls areas) ≡ 0 =
    simp count (ap (areas_fault 0) all ∙ no-faults ls s 0 areas holds.ascending holds.each) in
    sym (from-areas (counted_afresh ls areas) draw none (sym (ap (map held) all ∙ map-map held (kept_for ls) areas)))

-- ---- "Areas that a ground doesn't touch keep their sums"

-- licences that cover no cell of an area cover no people there
no-people : (a : Area) (l : Licence) → cells_by a l ≡ 0 → people_by a l ≡ 0
no-people a l free = rows a.grid free
  where
    here : (p : Place) → cell_under l a.head.number p ≡ 0 → people_under l a.head.number p ≡ 0
    here gap e = refl
    here (cell c) e =
        by-test (covers l.ground a.head.number c)
        (λ t. absurd (let z : 1 ≡ 0 = simp t at e in omega arith))
        (λ t. simp t)

    row : (r : List Place) → total (cell_under l a.head.number) r ≡ 0 → total (people_under l a.head.number) r ≡ 0
    row [] e = refl
    row (p ∷ r) e =
        let first = here p (omega arith) in
        let later = row r (omega arith) in
        omega arith

    rows : (g : List (List Place)) → total (total (cell_under l a.head.number)) g ≡ 0
        → total (total (people_under l a.head.number)) g ≡ 0
    rows [] e = refl
    rows (r ∷ g) e =
        let first = row r (omega arith) in
        let later = rows g (omega arith) in
        omega arith

no-coverage : (ls : List Licence) (a : Area) → sum_of_cells ls a ≡ 0 → coverage ls a ≡ 0
no-coverage [] a e = refl
no-coverage (l ∷ ls) a e =
    let here = ap (λ (n : ℕ). l.width * n) (no-people a l (omega arith)) ∙ mul-zero l.width in
    let later = no-coverage ls a (omega arith) in
    omega arith

module _ (ls : List Licence) (areas : List Area) (k : Kept) (free : Untouched ls areas k) where
  added_none : Fits k → added ls areas k ≡ k
  added_none fits = go (locate k.number areas) refl
    where
      go : (x : Located) → locate k.number areas ≡ x → added_in ls k x ≡ k
      go none e = refl
      go (some a) e =
          let cells = free a e in
          let people = no-coverage ls a cells in
          let same-people : k.mhz_pops.0 + coverage ls a ≡ k.mhz_pops.0 = omega arith in
          let same-cells : k.cells.0 + sum_of_cells ls a ≡ k.cells.0 = omega arith in
          λ i. with_sums k
          ((exact (k.mhz_pops.0 + coverage ls a) (omega (arith, fits.mhz-pops)) ∙ same-people) i)
          ((exact (k.cells.0 + sum_of_cells ls a) (omega (arith, fits.cells)) ∙ same-cells) i)

  subtracted-none : subtracted ls areas k ≡ k
  subtracted-none = go (locate k.number areas) refl
    where
      go : (x : Located) → locate k.number areas ≡ x → subtracted_in ls k x ≡ k
      go none e = refl
      go (some a) e =
          let cells = free a e in
          let people = no-coverage ls a cells in
          let same-people : k.mhz_pops.0 - coverage ls a ≡ k.mhz_pops.0 = omega arith in
          let same-cells : k.cells.0 - sum_of_cells ls a ≡ k.cells.0 = omega arith in
          λ i. with_sums k (same-people i) (same-cells i)

-- an entry that its change leaves is left
changed-at : (g : Kept → Kept) (n : ℕ) (l : List Kept) (i : ℕ) → g (get_or l i no_kept) ≡ get_or l i no_kept
    → get_or (map g (take n l) ++ drop n l) i no_kept ≡ get_or l i no_kept
changed-at g zero l i e = refl
changed-at g (suc n) [] i e = refl
changed-at g (suc n) (k ∷ l) zero e = e
changed-at g (suc n) (k ∷ l) (suc i) e = changed-at g n l i e

-- whether the call is accepted or refused
left_at : (g : Kept → Kept) (number : ℕ) (kept after : Record) → after ≡ cond (eqb number 0) (changed g kept) kept → (i : ℕ)
    → g (get_or kept.areas i no_kept) ≡ get_or kept.areas i no_kept → get_or after.areas i no_kept ≡ get_or kept.areas i no_kept
left_at g number kept after is i e =
    ap (λ (r : Record). get_or r.areas i no_kept) is
    ∙ by-test (eqb number 0) (λ t. simp t (changed-at g (entries kept) kept.areas i e)) (λ t. simp t)

pub grant-leaves-untouched : GrantLeavesUntouched
grant-leaves-untouched areas end old kept after l r d i fits free =
    left_at (added (l ∷ []) areas) r.refusal kept after d.1 i
    (added_none (l ∷ []) areas (get_or kept.areas i no_kept) free fits)

pub cancel-leaves-untouched : CancelLeavesUntouched
cancel-leaves-untouched areas end old kept after s r d i free =
    left_at (subtracted (struck s (in_force old.places)) areas) r.refusal kept after d.1 i
    (subtracted-none (struck s (in_force old.places)) areas (get_or kept.areas i no_kept) free)
