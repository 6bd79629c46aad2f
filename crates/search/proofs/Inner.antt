-- With the partial area chosen, the search changes that area's entry and goes by it alone. Assumes nothing.
use Prim.Native.Nat.{ℕ, suc, ◌+◌, ◌-◌, ◌*◌, ◌^◌, ◌<◌, ◌≤◌}
use mathlib.Core.Path.{◌≡◌, refl, sym, ap, subst, ◌∙◌}
use mathlib.Core.Bool.{Bool, true, false, cond, ◌||◌, ◌&&◌}
use mathlib.Core.Logic.{◌⊎◌, inl, inr}
use mathlib.Core.List.{List, [], ◌∷◌}
use native.Mathlib.Nat.{pow-suc, pow-le-pow_right}
use native.Mathlib.Numerals.{add-one}
use native.Mathlib.Omega.{arith}
use lib.Dec.{ltb, leb, eqb}
use lib.ListN.{length, get_or, set, take, drop, length-set, length-drop, length-map, get_or-map}
use lib.Seq.{get_or-set_same, take_all, length-take-le}
use Rattle.std.proofs.lemmas.Nat.{pow-add}
use Rattle.std.proofs.lemmas.List.{drop-map, map-set, set-get_or, set-set}
use borrow.Author.Tests.{ne_eqb, eq-eqb, le-leb, lt-leb, eqb-true}
use Rattle.search.specs.Search.{Kept, as_kept, kept_of, keep, note, note_at, note_all, positions, searched, Pos}
use Rattle.search.specs.declared.Held.{Held}
use Rattle.search.specs.declared.Partial.{Partial}
use Rattle.search.specs.Proposal.{sizes}
use Rattle.search.specs.Search.{lesser, leaf_held, within_held, Room}
use Rattle.search.proofs.Branches.{Whole, branches, search-end, search-next}
use Rattle.search.proofs.Entries.{held, Has}
use Rattle.search.proofs.Select.{none, size-of}

-- ---- the tables with one entry replaced

abbrev pub put : ℕ → Held → Kept → Kept
put e h k = as_kept (set k.white e h.white) (set k.least e h.set)

put-own : (e : ℕ) (k : Kept) → k ≡ put e (held k e) k
put-own e k = λ i. as_kept (sym (set-get_or k.white e 0) i) (sym (set-get_or k.least e 0) i)

put-twice : (e : ℕ) (h g : Held) (k : Kept) → put e g (put e h k) ≡ put e g k
put-twice e h g k = λ i.
    as_kept (set-set k.white e h.white g.white i) (set-set k.least e h.set g.set i)

put-at : (e : ℕ) (h : Held) (k : Kept) → Has k e → held (put e h k) e ≡ h
put-at e h k b = λ i. record {
  white = get_or-set_same k.white e h.white 0 b.0 i;
  set = get_or-set_same k.least e h.set 0 b.1 i;
}

put_has : (e : ℕ) (h : Held) (k : Kept) → Has k e → Has (put e h k) e
put_has e h k b = (simp length-set b.0, simp length-set b.1)

-- ---- keeping and noting change one entry

keep-put : (f s e : ℕ) (k : Kept) → keep f s e k ≡ put e (lesser (record { white = f; set = s }) (held k e)) k
unfolding keep lesser
keep-put f s e k = go (ltb f (get_or k.white e 0)) (eqb f (get_or k.white e 0)) (ltb s (get_or k.least e 0)) refl
  where
    h : Held
    h = held k e

    -- as much white space leaves the white space as it was
    level : eqb f (get_or k.white e 0) ≡ true → k.white ≡ set k.white e f
    level p = sym (set-get_or k.white e 0) ∙ ap (λ (v : ℕ). set k.white e v) (sym (eqb-true f (get_or k.white e 0) p))

    go : (a b c : Bool) → eqb f (get_or k.white e 0) ≡ b
        → cond a (as_kept (set k.white e f) (set k.least e s)) (cond b (cond c (as_kept k.white (set k.least e s)) k) k)
        ≡ put e (cond (a || (b && c)) (record { white = f; set = s }) h) k
    go true b c p = refl
    go false true true p = λ i. as_kept (level p i) (set k.least e s)
    go false true false p = put-own e k
    go false false c p = put-own e k

note-put : (sizes : List ℕ) (left j s : ℕ) (k : Kept)
    → note sizes left (suc j) s k ≡ put (suc j) (leaf_held left s (get_or sizes j 0) (held k (suc j))) k
unfolding note leaf_held
note-put sizes left j s k = rw (down, ne_eqb (suc j) 0 (omega arith)) (go (ltb 0 left) (ltb left (get_or sizes j 0)))
  where
    down : suc j - 1 ≡ j
    down = omega arith

    h : Held
    h = held k (suc j)

    go : (a b : Bool) → cond a (cond b (keep (get_or sizes j 0 - left) s (suc j) k) k) k
        ≡ put (suc j) (cond a (cond b (lesser (record { white = get_or sizes j 0 - left; set = s }) h) h) h) k
    go true true = keep-put (get_or sizes j 0 - left) s (suc j) k
    go true false = put-own (suc j) k
    go false b = put-own (suc j) k

-- the positions below one whose partial area has place j
pub inner : (sizes : List ℕ) (j : ℕ) (ms : List ℕ) (at left s bit : ℕ) (k : Kept) → Has k (suc j)
    → note_all sizes k (positions ms at left (suc j) s bit)
    ≡ put (suc j) (within_held ms left s bit (get_or sizes j 0) (held k (suc j))) k
unfolding within_held note_all positions note_at
inner sizes j [] at left s bit k b = note-put sizes left j s k
inner sizes j (m ∷ ms) at left s bit k b =
    branches sizes m ms at left (suc j) s bit k
    ∙ last
    ∙ ap (λ (x : Kept). note_all sizes x (fits (leb m left))) (inner sizes j ms (at + 1) left s (bit * 2) k b)
    ∙ go (leb m left) (inner sizes j ms (at + 1) (left - m) (s + bit) (bit * 2) (put (suc j) h₁ k) (put_has (suc j) h₁ k b))
  where
    h₁ : Held
    h₁ = within_held ms left s (bit * 2) (get_or sizes j 0) (held k (suc j))

    over : Held → Held
    over h = within_held ms (left - m) (s + bit) (bit * 2) (get_or sizes j 0) h

    fits : Bool → List Pos
    fits a = cond a (positions ms (at + 1) (left - m) (suc j) (s + bit) (bit * 2)) []

    k₂ : Kept
    k₂ = note_all sizes (note_all sizes k (positions ms (at + 1) left (suc j) s (bit * 2))) (fits (leb m left))

    last : note_all sizes k₂ (cond (eqb (suc j) 0) (positions ms (at + 1) left (at + 1) s (bit * 2)) []) ≡ k₂
    last = rw (ne_eqb (suc j) 0 (omega arith))

    go : (a : Bool)
        → note_all sizes (put (suc j) h₁ k) (fits true) ≡ put (suc j) (over (held (put (suc j) h₁ k) (suc j))) (put (suc j) h₁ k)
        → note_all sizes (put (suc j) h₁ k) (fits a) ≡ put (suc j) (cond a (over h₁) h₁) k
    go true e =
        e ∙ ap (λ (h : Held). put (suc j) (over h) (put (suc j) h₁ k)) (put-at (suc j) h₁ k b) ∙ put-twice (suc j) h₁ _ k
    go false e = refl

-- ---- the remaining areas, as the code goes through them

-- no area is left
pub within_end : (rest : List Partial) (left s bit cap : ℕ) (h h' : Held) → length rest < 1 → h' ≡ leaf_held left s cap h
    → h' ≡ within_held (sizes rest) left s bit cap h
unfolding within_held
within_end [] left s bit cap h h' z e = e
within_end (p ∷ rest) left s bit cap h h' z e = absurd (omega arith)

-- the last area, decided where it stands
pub within-last : (rest : List Partial) (left s bit cap : ℕ) (h h₁ h₂ : Held) → 1 ≤ length rest → length rest < 2
    → h₁ ≡ leaf_held left s cap h
    → (((get_or rest 0 none).size.0 ≤ left) × (h₂ ≡ leaf_held (left - (get_or rest 0 none).size.0) (s + bit) cap h₁))
    ⊎ ((left < (get_or rest 0 none).size.0) × (h₂ ≡ h₁))
    → h₂ ≡ within_held (sizes rest) left s bit cap h
unfolding within_held
within-last [] left s bit cap h h₁ h₂ y z e o = absurd (omega arith)
within-last (p ∷ q ∷ rest) left s bit cap h h₁ h₂ y z e o = absurd (omega arith)
within-last (p ∷ []) left s bit cap h h₁ h₂ y z e (inl w) =
    rw (le-leb p.size.0 left w.0) (w.1 ∙ ap (λ (x : Held). leaf_held (left - p.size.0) (s + bit) cap x) e)
within-last (p ∷ []) left s bit cap h h₁ h₂ y z e (inr w) = rw (lt-leb p.size.0 left w.0) (w.1 ∙ e)

-- the areas after the first, as the code lends them
abbrev pub after : List Partial → List Partial
after rest = take (length rest - 1) (drop 1 rest)

after-cons : (p : Partial) (rest : List Partial) → after (p ∷ rest) ≡ rest
after-cons p rest = take_all (length (p ∷ rest) - 1) rest (omega arith)

-- one area decided: left out, then whole if it fits
pub within-next : (rest : List Partial) (left s bit cap : ℕ) (h h₁ h₂ : Held) → 1 ≤ length rest
    → h₁ ≡ within_held (sizes (after rest)) left s (bit * 2) cap h
    → (((get_or rest 0 none).size.0 ≤ left)
    × (h₂ ≡ within_held (sizes (after rest)) (left - (get_or rest 0 none).size.0) (s + bit) (bit * 2) cap h₁))
    ⊎ ((left < (get_or rest 0 none).size.0) × (h₂ ≡ h₁))
    → h₂ ≡ within_held (sizes rest) left s bit cap h
unfolding within_held
within-next [] left s bit cap h h₁ h₂ z e o = absurd (omega arith)
within-next (p ∷ rest) left s bit cap h h₁ h₂ z e (inl w) =
    rw (le-leb p.size.0 left w.0)
    (w.1 ∙ ap (λ (l : List Partial). within_held (sizes l) (left - p.size.0) (s + bit) (bit * 2) cap h₁) (after-cons p rest)
    ∙ ap (λ (x : Held). within_held (sizes rest) (left - p.size.0) (s + bit) (bit * 2) cap x)
    (e ∙ ap (λ (l : List Partial). within_held (sizes l) left s (bit * 2) cap h) (after-cons p rest)))
within-next (p ∷ rest) left s bit cap h h₁ h₂ z e (inr w) =
    rw (lt-leb p.size.0 left w.0)
    (w.1 ∙ e ∙ ap (λ (l : List Partial). within_held (sizes l) left s (bit * 2) cap h) (after-cons p rest))

-- ---- set numbers fit

-- the areas after `at` leave room for their set number
pub outer-room : (n at s bit rest : ℕ) → n ≤ 20 → at < n → bit ≡ 2 ^ at → s < bit → rest ≡ n - (at + 1)
    → Room rest s (bit * 2)
outer-room n at s bit rest few h power small e = record {
  small = omega arith;
  room = rw q (pow-le-pow_right {n = 2} (omega arith) {i = at + 1 + rest} {j = 20} (omega arith));
}
  where
    q : bit * 2 * 2 ^ rest ≡ 2 ^ (at + 1 + rest)
    q =
        ap (λ (x : ℕ). x * 2 * 2 ^ rest) power
        ∙ ap (λ (x : ℕ). x * 2 ^ rest) (sym (ap (λ (j : ℕ). 2 ^ j) (add-one at) ∙ pow-suc 2 at))
        ∙ sym (pow-add 2 (at + 1) rest)

-- ---- the search as the code has it, no area being partial before `at`

-- the areas after `at`, as the code lends them
abbrev pub beyond : List Partial → ℕ → List Partial
beyond partials at = take (length partials - (at + 1)) (drop (at + 1) partials)

beyond-all : (partials : List Partial) (at : ℕ) → beyond partials at ≡ drop (at + 1) partials
beyond-all partials at = take_all (length partials - (at + 1)) _ (omega (arith, length-drop (at + 1) partials))

pub beyond-length : (partials : List Partial) (at : ℕ) → length (beyond partials at) ≡ length partials - (at + 1)
beyond-length partials at =
    length-take-le (length partials - (at + 1)) (drop (at + 1) partials) (omega (arith, length-drop (at + 1) partials))

-- their sizes
pub beyond-sizes : (partials : List Partial) (at : ℕ) → sizes (beyond partials at) ≡ drop (at + 1) (sizes partials)
beyond-sizes partials at = ap (λ (l : List Partial). sizes l) (beyond-all partials at) ∙ sym (drop-map _ (at + 1) partials)

module _ (sizes : List ℕ) (at left s bit : ℕ) where
  -- all areas decided
  pub end-exact : (k : Kept) (h : Held) → at ≡ length sizes → left ≡ 0 → h ≡ lesser (record { white = 0; set = s }) (held k 0)
      → put 0 h k ≡ searched sizes at left 0 s bit k
  unfolding note
  end-exact k h n z e =
      ap (λ (x : Held). put 0 x k) e
      ∙ sym (keep-put 0 s 0 k)
      ∙ sym (ap (λ (b : Bool). cond b (keep 0 s 0 k) k) (eq-eqb left 0 z))
      ∙ search-end sizes at left 0 s bit k n

  pub end_none : (k : Kept) → at ≡ length sizes → (left ≡ 0 → ⊥) → k ≡ searched sizes at left 0 s bit k
  unfolding note
  end_none k h z =
      sym (ap (λ (b : Bool). cond b (keep 0 s 0 k) k) (ne_eqb left 0 z)) ∙ search-end sizes at left 0 s bit k h

  -- the choices with the area at `at` partial change its entry alone
  pub inner-searched : (k : Kept) (h : Held) → at < length sizes → Has k (at + 1)
      → (rest : List ℕ) → rest ≡ drop (at + 1) sizes
      → h ≡ within_held rest left s bit (get_or sizes at 0) (held k (at + 1))
      → put (at + 1) h k ≡ searched sizes (at + 1) left (at + 1) s bit k
  unfolding searched
  inner-searched k h l b rest r e =
      ap (λ (x : Held). put (at + 1) x k) e
      ∙ ap (λ (j : ℕ). put j (within_held rest left s bit (get_or sizes at 0) (held k j)) k) n
      ∙ sym (inner sizes at rest (at + 1) left s bit k (subst (λ (j : ℕ). Has k j) n b))
      ∙ (λ i. note_all sizes k (positions (r i) (at + 1) left (sym n i) s bit))
    where
      n : at + 1 ≡ suc at
      n = add-one at

-- ---- the same over the code's table

-- what is read past the table
abbrev pub empty : Held
empty = record { white = 0; set = 0 }

pub held-of : (table : List Held) (t : ℕ) → held (kept_of table) t ≡ get_or table t empty
held-of table t = λ i. record {
  white = get_or-map (λ (h : Held). h.white) table t empty i;
  set = get_or-map (λ (h : Held). h.set) table t empty i;
}

pub put-of : (table : List Held) (e : ℕ) (h : Held) → kept_of (set table e h) ≡ put e h (kept_of table)
put-of table e h = λ i. as_kept (map-set (λ (g : Held). g.white) table e h i) (map-set (λ (g : Held). g.set) table e h i)

has-of : (table : List Held) (t : ℕ) → t < length table → Has (kept_of table) t
has-of table t h = (
  omega (arith, length-map table (λ (g : Held). g.white)),
  omega (arith, length-map table (λ (g : Held). g.set)),
)

module _ (partials : List Partial) (at left s bit : ℕ) where
  pub exact-of : (table : List Held) (h : Held) → at ≡ length partials → left ≡ 0
      → h ≡ lesser (record { white = 0; set = s }) (get_or table 0 empty)
      → kept_of (set table 0 h) ≡ searched (sizes partials) at left 0 s bit (kept_of table)
  exact-of table h n z e =
      put-of table 0 h
      ∙ end-exact (sizes partials) at left s bit (kept_of table) h (n ∙ sym (length-map partials _)) z
      (e ∙ ap (λ (x : Held). lesser (record { white = 0; set = s }) x) (sym (held-of table 0)))

  pub none-of : (table : List Held) → at ≡ length partials → (left ≡ 0 → ⊥)
      → kept_of table ≡ searched (sizes partials) at left 0 s bit (kept_of table)
  none-of table n z = end_none (sizes partials) at left s bit (kept_of table) (n ∙ sym (length-map partials _)) z

  -- the size at `at`, as the code reads it
  abbrev m : ℕ
  m = (get_or partials at none).size.0

  pub next-of : (table t₁ t₂ : List Held) (h : Held) → at < length partials → at + 1 < length t₂
      → kept_of t₁ ≡ searched (sizes partials) (at + 1) left 0 s (bit * 2) (kept_of table)
      → ((m ≤ left) × (kept_of t₂ ≡ searched (sizes partials) (at + 1) (left - m) 0 (s + bit) (bit * 2) (kept_of t₁)))
      ⊎ ((left < m) × (kept_of t₂ ≡ kept_of t₁))
      → h ≡ within_held (sizes (beyond partials at)) left s (bit * 2) m (get_or t₂ (at + 1) empty)
      → kept_of (set t₂ (at + 1) h) ≡ searched (sizes partials) at left 0 s bit (kept_of table)
  next-of table t₁ t₂ h l r e o w =
      put-of t₂ (at + 1) h
      ∙ search-next (sizes partials) at left 0 s bit (kept_of table) (kept_of t₁) (kept_of t₂) _ few e (whole o)
      (inl (
        refl,
        inner-searched (sizes partials) at left s (bit * 2) (kept_of t₂) h few (has-of t₂ (at + 1) r) _ (beyond-sizes partials at)
            (w ∙ (λ i. within_held (sizes (beyond partials at)) left s (bit * 2) (sym (size-of partials at) i) (sym (held-of t₂ (at + 1)) i))),
      ))
    where
      few : at < length (sizes partials)
      few = omega (arith, length-map partials (λ (p : Partial). p.size.0))

      whole : ((m ≤ left) × (kept_of t₂ ≡ searched (sizes partials) (at + 1) (left - m) 0 (s + bit) (bit * 2) (kept_of t₁)))
          ⊎ ((left < m) × (kept_of t₂ ≡ kept_of t₁))
          → Whole (sizes partials) at left 0 s bit (kept_of t₁) (kept_of t₂)
      whole (inl q) = inl (
        omega (arith, size-of partials at, q.0),
        q.1 ∙ ap (λ (v : ℕ). searched (sizes partials) (at + 1) (left - v) 0 (s + bit) (bit * 2) (kept_of t₁)) (sym (size-of partials at)),
      )
      whole (inr q) = inr (omega (arith, size-of partials at, q.0), q.1)
