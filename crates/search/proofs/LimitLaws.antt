-- The test of the limits passes where they hold, and there alone. Assumes nothing.
use Prim.Native.Nat.{ℕ, zero, suc, ◌<◌, ◌≤◌}
use mathlib.Core.Path.{◌≡◌, refl, sym, ap, ◌∙◌}
use mathlib.Core.Bool.{Bool, true, false, ◌&&◌}
use mathlib.Core.List.{List, [], ◌∷◌}
use native.Mathlib.Omega.{arith}
use lib.Dec.{leb, eqb}
use lib.ListN.{length, get_or, length-map}
use Rattle.std.specs.List.{list_all}
use Rattle.search.specs.declared.Partial.{Partial}
use borrow.Author.Tests.{le-leb, lt-leb, leb-true, eq-eqb, eqb-true}
use Rattle.lists.proofs.Tests.{both, not_first, first_of, second-of}
use Rattle.search.specs.Choice.{largest_size, largest_weight}
use Rattle.search.specs.Proposal.{sizes, weights, at_most, in_limits, Limits}

-- ---- values at most a bound

at-most-pass : (most : ℕ) (l : List ℕ) → ((i : ℕ) → get_or l i 0 ≤ most) → at_most most l ≡ true
unfolding at_most
at-most-pass most [] h = refl
at-most-pass most (x ∷ l) h = both (le-leb x most (h 0)) (at-most-pass most l (λ i. h (suc i)))

at-most-each : (most : ℕ) (l : List ℕ) → at_most most l ≡ true → (i : ℕ) → get_or l i 0 ≤ most
unfolding at_most
at-most-each most [] h i = omega arith
at-most-each most (x ∷ l) h zero = leb-true x most (first_of (leb x most) (at_most most l) h)
at-most-each most (x ∷ l) h (suc i) = at-most-each most l (second-of (leb x most) (at_most most l) h) i

-- ---- the limits

pub limits-pass : (ms ws : List ℕ) → Limits ms ws → in_limits ms ws ≡ true
unfolding in_limits
limits-pass ms ws l =
    both (le-leb (length ms) 20 l.few)
    (both (eq-eqb (length ws) (length ms) l.pairs)
    (both (at-most-pass largest_size ms l.sizes) (at-most-pass largest_weight ws l.weights)))

pass-limits : (ms ws : List ℕ) → in_limits ms ws ≡ true → Limits ms ws
unfolding in_limits
pass-limits ms ws h =
    let fits = at_most largest_size ms && at_most largest_weight ws in
    let paired = eqb (length ws) (length ms) in
    let later = second-of (leb (length ms) 20) (paired && fits) h in
    let small = second-of paired fits later in
    record {
      few = leb-true (length ms) 20 (first_of (leb (length ms) 20) (paired && fits) h);
      pairs = eqb-true (length ws) (length ms) (first_of paired fits later);
      sizes = at-most-each largest_size ms (first_of (at_most largest_size ms) (at_most largest_weight ws) small);
      weights = at-most-each largest_weight ws (second-of (at_most largest_size ms) (at_most largest_weight ws) small);
    }

-- past an answer of the test that is true
pub past-test : (ms ws : List ℕ) (b : Bool) → b ≡ in_limits ms ws → b ≡ true → Limits ms ws
past-test ms ws b e h = pass-limits ms ws (sym e ∙ h)

-- ---- the test of the code

pub too_many : (l : List Partial) → 20 < length l → in_limits (sizes l) (weights l) ≡ false
unfolding in_limits
too_many l h = not_first _ (lt-leb (length (sizes l)) 20 (omega (arith, length-map l (λ (p : Partial). p.size.0))))

-- an area with its size and its weight in their limits
abbrev pub small : Partial → Bool
small p = leb p.size.0 largest_size && leb p.weight largest_weight

regroup : (a b c d : Bool) → ((a && b) && (c && d)) ≡ ((a && c) && (b && d))
regroup true true c d = refl
regroup true false true d = refl
regroup true false false d = refl
regroup false b c d = refl

all-small : (l : List Partial) → list_all small l ≡ (at_most largest_size (sizes l) && at_most largest_weight (weights l))
unfolding at_most
all-small [] = refl
all-small (p ∷ l) =
    ap (λ (b : Bool). small p && b) (all-small l)
    ∙ regroup (leb p.size.0 largest_size) (leb p.weight largest_weight) (at_most largest_size (sizes l)) (at_most largest_weight (weights l))

pub by_areas : (l : List Partial) → length l ≤ 20 → list_all small l ≡ in_limits (sizes l) (weights l)
unfolding in_limits
by_areas l h =
    let few : length (sizes l) ≤ 20 = omega (arith, length-map l (λ (p : Partial). p.size.0)) in
    let pairs : length (weights l) ≡ length (sizes l) =
    length-map l (λ (p : Partial). p.weight) ∙ sym (length-map l (λ (p : Partial). p.size.0)) in
    all-small l ∙ sym (rw (le-leb (length (sizes l)) 20 few, eq-eqb (length (weights l)) (length (sizes l)) pairs))
