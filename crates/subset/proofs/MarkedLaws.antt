-- Laws of the cells that are left out, and of what a set takes of the places below n, which the footprint cites. Assumes nothing.
use Prim.Native.Nat.{ℕ, zero, suc, ◌<◌}
use mathlib.Core.Path.{◌≡◌, refl, sym, ap, ◌∙◌}
use mathlib.Core.Bool.{Bool, true, false, cond, ◌&&◌, ◌||◌}
use mathlib.Core.List.{List, [], ◌∷◌, ◌++◌, map, append-nil, Memᴰ}
use native.Mathlib.Omega.{arith}
use lib.Dec.{ltb, leb, eqb}
use lib.ListN.{length}
use borrow.Author.Tests.{ltb-true, leb-true, eqb-true, eq-eqb}
use Rattle.lists.specs.Sums.{sum_below}
use Rattle.lists.specs.Filters.{filter, up_to, among}
use Rattle.lists.proofs.Tests.{by-test, not-both, first_of, second-of}
use Rattle.lists.proofs.FilterLaws.{mem-filter, filter-next, up_to-below, map_same, among-mem, mem-among}
use Rattle.lists.proofs.BelowLaws.{sum_same, sum-filter}
use Rattle.subset.specs.Sets.{total_of, taken_of}
use Rattle.subset.specs.Marked.{candidates, roomy}
use Rattle.subset.specs.Table.{Room}
use Rattle.subset.proofs.SetLaws.{total-marks}

-- ---- room

-- what the test of room says
pub roomy-out : (mask people n slack table : ℕ) → roomy mask people n slack table ≡ true → Room 65535 mask people n slack table
unfolding roomy
roomy-out mask people n slack table h =
    let three = first_of (ltb slack table && leb n 65535 && leb n mask) (leb n people) h in
    let two = first_of (ltb slack table && leb n 65535) (leb n mask) three in
    record {
      entries = ltb-true slack table (first_of (ltb slack table) (leb n 65535) two);
      few = leb-true n 65535 (second-of (ltb slack table) (leb n 65535) two);
      bytes = leb-true n mask (second-of (ltb slack table && leb n 65535) (leb n mask) three);
      counts = leb-true n people (second-of (ltb slack table && leb n 65535 && leb n mask) (leb n people) h);
    }

-- ---- the candidates

-- a candidate is a place below n
pub candidate-low : (mask people : List ℕ) (n i : ℕ) → Memᴰ i (candidates mask people n) → i < n
unfolding candidates
candidate-low mask people n i m =
    up_to-below n i (mem-filter _ (up_to n) i m).0

-- ---- what a set takes of a list

pub taken-some : (i : ℕ) (l : List ℕ) (set : List Bool) → among i (taken_of l set) ≡ true → among i l ≡ true
unfolding taken_of
taken-some i [] set h = h
taken-some i (a ∷ l) [] h = not-both h refl
taken-some i (a ∷ l) (true ∷ set) h = by-test (eqb i a)
    (λ t. rw t)
    (λ t. let g : among i (taken_of l set) ≡ true = rw t at h in rw t (taken-some i l set g))
taken-some i (a ∷ l) (false ∷ set) h = by-test (eqb i a) (λ t. rw t) (λ t. rw t (taken-some i l set h))

-- no number stands in a list twice
abbrev pub Distinct : List ℕ → Type 0
Distinct [] = Unit {0}
Distinct (a ∷ l) = (among a l ≡ false) × Distinct l

-- then a set's marks tell what it takes
pub marks-taken : (l : List ℕ) (set : List Bool) → Distinct l → length set ≡ length l
    → map (λ i. among i (taken_of l set)) l ≡ set
unfolding taken_of
marks-taken [] [] d e = refl
marks-taken [] (b ∷ set) d e = absurd (omega arith)
marks-taken (a ∷ l) [] d e = absurd (omega arith)
marks-taken (a ∷ l) (b ∷ set) d e =
    let taken : ℕ → Bool = λ i. among i (taken_of l set) in
    rw (head b, map_same (λ (i : ℕ). among i (taken_of (a ∷ l) (b ∷ set))) taken l (λ i m. tail b i (mem-among l i m)))
    (ap (λ (s : List Bool). b ∷ s) (marks-taken l set d.1 (omega arith)))
  where
    head : (b : Bool) → among a (taken_of (a ∷ l) (b ∷ set)) ≡ b
    head true = rw (eq-eqb a a refl)
    head false = by-test (among a (taken_of l set)) (λ t. not-both (taken-some a l set t) d.0) (λ t. t)

    tail : (b : Bool) (i : ℕ) → among i l ≡ true → among i (taken_of (a ∷ l) (b ∷ set)) ≡ among i (taken_of l set)
    tail true i m = by-test (eqb i a)
        (λ t. let q : among a l ≡ true = rw (eqb-true i a t) at m in not-both q d.0)
        (λ t. rw t)
    tail false i m = refl

-- ---- of places below n

distinct-last : (l : List ℕ) (n : ℕ) → Distinct l → ((i : ℕ) → among i l ≡ true → i < n) → Distinct (l ++ (n ∷ []))
distinct-last [] n d h = (refl, tt)
distinct-last (a ∷ l) n d h = (
  last l d.0 (λ e. let q = h a (rw (eq-eqb a a refl)) in omega arith),
  distinct-last l n d.1 (λ i m. h i (later i m)),
)
  where
    later : (i : ℕ) → among i l ≡ true → eqb i a || among i l ≡ true
    later i m = by-test (eqb i a) (λ t. rw t) (λ t. rw t m)

    last : (l : List ℕ) → among a l ≡ false → (a ≡ n → ⊥) → among a (l ++ (n ∷ [])) ≡ false
    last [] e ne = by-test (eqb a n) (λ t. absurd (ne (eqb-true a n t))) (λ t. rw t)
    last (b ∷ l) e ne = by-test (eqb a b)
        (λ t. not-both {b = true} refl (rw t at e))
        (λ t. let q : among a l ≡ false = rw t at e in rw t (last l q ne))

pub distinct-below : (p : ℕ → Bool) (n : ℕ) → Distinct (filter p (up_to n))
unfolding filter up_to
distinct-below p zero = tt
distinct-below p (suc n) = rw (filter-next p n) (go (p n) (distinct-below p n))
  where
    low : (i : ℕ) → among i (filter p (up_to n)) ≡ true → i < n
    low i h = up_to-below n i (mem-filter p (up_to n) i (among-mem (filter p (up_to n)) i h)).0

    go : (b : Bool) → Distinct (filter p (up_to n)) → Distinct (filter p (up_to n) ++ cond b (n ∷ []) [])
    go true d = distinct-last (filter p (up_to n)) n d low
    go false d = rw append-nil d

-- the total of what a set takes is a sum over the places below n
pub total-taken : (f : ℕ → ℕ) (p : ℕ → Bool) (n : ℕ) (set : List Bool) → length set ≡ length (filter p (up_to n))
    → total_of (map f (filter p (up_to n))) set ≡ sum_below f (λ i. among i (taken_of (filter p (up_to n)) set)) n
total-taken f p n set e =
    let l : List ℕ = filter p (up_to n) in
    let taken : ℕ → Bool = λ i. among i (taken_of l set) in
    ap (total_of (map f l)) (sym (marks-taken l set (distinct-below p n) e))
    ∙ total-marks f taken l
    ∙ sum-filter (λ (i : ℕ). cond (taken i) (f i) 0) p n
    ∙ sum_same (λ (i : ℕ). cond (taken i) (f i) 0) f p taken n (λ i h. once i (taken i) refl)
  where
    once : (i : ℕ) (b : Bool) → among i (taken_of (filter p (up_to n)) set) ≡ b → cond (p i) (cond b (f i) 0) 0 ≡ cond b (f i) 0
    once i true h =
        let m = among-mem (filter p (up_to n)) i (taken-some i (filter p (up_to n)) set h) in
        rw (mem-filter p (up_to n) i m).1
    once i false h = by-test (p i) (λ t. rw t) (λ t. rw t)
