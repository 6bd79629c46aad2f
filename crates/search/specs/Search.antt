-- Document 01, "The proposal": the search over all choices, as the contracts cite it. Assumes nothing.
-- "To form a choice, each partial area in turn is left out, taken whole or made the one partial area."
use Rattle.std.specs.Prelude.{ℕ, zero, suc, ◌+◌, ◌-◌, ◌*◌, ◌^◌, ◌<◌, ◌≤◌, ◌≡◌, cond, ◌||◌, ◌&&◌, ltb, leb, eqb, length, get_or, set, drop}
use mathlib.Core.List.{List, [], ◌∷◌, ◌++◌, foldl, map}
use Rattle.search.specs.declared.Held.{Held}

-- ---- what is kept

-- Entry 0 is for exact choices, entry p + 1 for those whose partial area has place p in S: "less white space" and, at that
-- white space, "the smallest set number".
pub record Kept : Type 0 where
  pub white : List ℕ
  pub least : List ℕ

abbrev pub as_kept : List ℕ → List ℕ → Kept
as_kept white least = record { white = white; least = least }

-- the white spaces of the code's table, and its set numbers
abbrev pub whites : List Held → List ℕ
whites = map (λ (h : Held). h.white)

abbrev pub sets : List Held → List ℕ
sets = map (λ (h : Held). h.set)

-- what the code's table keeps
abbrev pub kept_of : List Held → Kept
kept_of table = as_kept (whites table) (sets table)

-- a choice with white space `free` and set number s, at entry e: kept if its white space is less, or equal with a smaller number
unfoldable pub keep : ℕ → ℕ → ℕ → Kept → Kept
keep free s e k =
    cond (ltb free (get_or k.white e 0))
    (record { white = set k.white e free; least = set k.least e s })
    (cond (eqb free (get_or k.white e 0))
    (cond (ltb s (get_or k.least e 0)) (record { white = k.white; least = set k.least e s }) k)
    k)

-- a complete choice that leaves the shortfall `left`: kept if it is allowed, at the entry e of its partial area
unfoldable pub note : List ℕ → ℕ → ℕ → ℕ → Kept → Kept
note sizes left e s k =
    cond (eqb e 0)
    (cond (eqb left 0) (keep 0 s 0 k) k)
    (cond (ltb 0 left)
    (cond (ltb left (get_or sizes (e - 1) 0)) (keep (get_or sizes (e - 1) 0 - left) s e k) k)
    k)

-- ---- the positions of the search

-- how many areas are undecided, the shortfall, the entry of the partial area, the set number
pub record Pos : Type 0 where
  pub rest : ℕ
  pub left : ℕ
  pub part : ℕ
  pub number : ℕ

-- The positions at and below one, depth first, each before those that extend it: "left out, taken whole or made the one partial
-- area". `ms` are the sizes of the undecided areas, of which the first has place `at` and counts `bit` in a set number.
unfoldable pub positions : List ℕ → ℕ → ℕ → ℕ → ℕ → ℕ → List Pos
positions [] at left e s bit = record { rest = 0; left = left; part = e; number = s } ∷ []
positions (m ∷ ms) at left e s bit =
    record { rest = suc (length ms); left = left; part = e; number = s }
    ∷ (positions ms (at + 1) left e s (bit * 2)
    ++ (cond (leb m left) (positions ms (at + 1) (left - m) e (s + bit) (bit * 2)) []
    ++ cond (eqb e 0) (positions ms (at + 1) left (at + 1) s (bit * 2)) []))

-- a position is noted if it is complete
unfoldable pub note_at : List ℕ → ℕ → ℕ → ℕ → ℕ → Kept → Kept
note_at sizes zero left e s k = note sizes left e s k
note_at sizes (suc r) left e s k = k

-- the positions noted in turn, from k on
unfoldable pub note_all : List ℕ → Kept → List Pos → Kept
note_all sizes = foldl (λ k p. note_at sizes p.rest p.left p.part p.number k)

-- what is kept after the positions at and below one
unfoldable pub searched : List ℕ → ℕ → ℕ → ℕ → ℕ → ℕ → Kept → Kept
searched sizes at left e s bit k = note_all sizes k (positions (drop at sizes) at left e s bit)

-- what a call of the search at a position asks: a table entry for each area and one more, and a set number that fits
pub record Ready (n at e s bit entries : ℕ) : Type 0 where
  pub few : n ≤ 20
  pub within : at ≤ n
  pub decided : e ≤ at
  pub small : s < bit
  pub power : bit ≡ 2 ^ at
  pub room : entries ≡ n + 1

-- ---- the search with the partial area chosen: it goes by that area's entry alone

-- the lesser of a choice and what is held: less white space, or as much and a smaller set number
unfoldable pub lesser : Held → Held → Held
lesser c h = cond (ltb c.white h.white || (eqb c.white h.white && ltb c.set h.set)) c h

-- a complete choice with a partial area of size `cap`: "above 0 and below the M of the partial area"
unfoldable pub leaf_held : ℕ → ℕ → ℕ → Held → Held
leaf_held left s cap h = cond (ltb 0 left) (cond (ltb left cap) (lesser (record { white = cap - left; set = s }) h) h) h

-- the remaining areas, each left out or whole
unfoldable pub within_held : List ℕ → ℕ → ℕ → ℕ → ℕ → Held → Held
within_held [] left s bit cap h = leaf_held left s cap h
within_held (m ∷ ms) left s bit cap h =
    cond (leb m left)
    (within_held ms (left - m) (s + bit) (bit * 2) cap (within_held ms left s (bit * 2) cap h))
    (within_held ms left s (bit * 2) cap h)

-- what a call with n areas left asks: a set number that fits
pub record Room (n s bit : ℕ) : Type 0 where
  pub small : s < bit
  pub room : bit * 2 ^ n ≤ 1_048_576
