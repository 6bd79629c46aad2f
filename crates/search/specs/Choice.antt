-- Document 01, "The proposal": choices of the partial areas, which of them are allowed, and how they rank. Assumes nothing.
-- T is "the sum of v over S"; ms are the sizes M and ws the weights of the areas of S, "ascending".
use Rattle.std.specs.Prelude.{ℕ, suc, ◌+◌, ◌-◌, ◌*◌, ◌<◌, ◌≤◌, ◌≡◌, Bool, true, false, not, cond, ◌&&◌, ◌⊎◌, List, [], ◌∷◌, ltb, leb, length, get_or}
use Rattle.search.specs.declared.Rank.{Rank}

-- ---- limits, from "The map"

-- the largest size: 100 × the largest weight × the largest population, which is 40,000,000
abbrev pub largest_size : ℕ
largest_size = 262_140_000_000_000

abbrev pub largest_weight : ℕ
largest_weight = 65_535

-- ---- a choice

-- "each partial area in turn is left out, taken whole or made the one partial area"
pub data Mark : Type 0 where
  out : Mark
  whole : Mark
  part : Mark

-- "the sizes of the whole areas", added
unfoldable pub wholes : List ℕ → List Mark → ℕ
wholes [] c = 0
wholes (m ∷ ms) [] = 0
wholes (m ∷ ms) (out ∷ c) = wholes ms c
wholes (m ∷ ms) (whole ∷ c) = m + wholes ms c
wholes (m ∷ ms) (part ∷ c) = wholes ms c

-- how many areas are made partial
unfoldable pub parts : List Mark → ℕ
parts [] = 0
parts (out ∷ c) = parts c
parts (whole ∷ c) = parts c
parts (part ∷ c) = suc (parts c)

-- the entry of the partial area: one more than its place in S, or e if there is none; the first area here has the place `at`
unfoldable pub entry_from : ℕ → ℕ → List Mark → ℕ
entry_from at e [] = e
entry_from at e (out ∷ c) = entry_from (at + 1) e c
entry_from at e (whole ∷ c) = entry_from (at + 1) e c
entry_from at e (part ∷ c) = entry_from (at + 1) (at + 1) c

-- the set number, begun with s; the first area here counts `bit`, each later one twice the one before
unfoldable pub number_from : ℕ → ℕ → List Mark → ℕ
number_from s bit [] = s
number_from s bit (out ∷ c) = number_from s (bit * 2) c
number_from s bit (whole ∷ c) = number_from (s + bit) (bit * 2) c
number_from s bit (part ∷ c) = number_from s (bit * 2) c

-- the entry of a choice's partial area, 0 if it has none
abbrev pub entry : List Mark → ℕ
entry c = entry_from 0 0 c

-- "set number": "a binary number over S, first area the ones place, 1 for whole"
abbrev pub number : List Mark → ℕ
number c = number_from 0 1 c

-- ---- which choices are allowed

-- "the shortfall, written share", 0 if exact
abbrev pub share : ℕ → List ℕ → List Mark → ℕ
share T ms c = T - wholes ms c

-- "the M of the partial area" by its entry, 0 if there is none
abbrev pub cap : List ℕ → ℕ → ℕ
cap ms e = get_or (0 ∷ ms) e 0

-- "White space is M - share, or 0 if exact"
abbrev pub white : ℕ → List ℕ → List Mark → ℕ
white T ms c = cap ms (entry c) - share T ms c

-- exact, or "the shortfall .. is above 0 and below the M of the partial area"
abbrev pub Proper : List ℕ → ℕ → ℕ → Type 0
Proper ms e left = ((e ≡ 0) × (left ≡ 0)) ⊎ ((0 < left) × (left < cap ms e))

-- "A choice is allowed if the sizes of the whole areas add to T with no partial area (exact), or the shortfall .. is above 0 and
-- below the M of the partial area"
pub record Allowed (T : ℕ) (ms : List ℕ) (c : List Mark) : Type 0 where
  pub each : length c ≡ length ms
  pub one : parts c ≤ 1
  pub under : wholes ms c ≤ T
  pub proper : Proper ms (entry c) (share T ms c)

-- ---- how choices rank

-- "All-whole means exact, or 10 × share ≥ 9 × M", and `far` is that it is not. An exact choice has the size 0 and the share 0.
unfoldable pub rank_of : ℕ → ℕ → ℕ → Rank
rank_of size w weight = record { far = ltb (10 * (size - w)) (9 * size); white = w; weight = weight }

-- "the partial area's weight" by its entry; 1 stands for none, as an exact choice has no white space to divide
abbrev pub heft : List ℕ → ℕ → ℕ
heft ws e = get_or (1 ∷ ws) e 0

-- the rank of a choice
abbrev pub rank : ℕ → List ℕ → List ℕ → List Mark → Rank
rank T ms ws c = rank_of (cap ms (entry c)) (white T ms c) (heft ws (entry c))

-- "All-whole choices rank ahead of the others; then less white space; then fewer white-space people", which are
-- "white space / (100 × the partial area's weight), compared as fractions": by their products across
unfoldable pub ahead : Rank → Rank → Bool
ahead a b =
    cond (not a.far && b.far) true
    (cond (not b.far && a.far) false
    (cond (ltb a.white b.white) true
    (cond (ltb b.white a.white) false
    (ltb (a.white * b.weight) (b.white * a.weight)))))

-- "best-ranked choices": allowed, and no allowed choice ranks ahead
pub record Best (T : ℕ) (ms ws : List ℕ) (c : List Mark) : Type 0 where
  pub allowed : Allowed T ms c
  pub first : (d : List Mark) → Allowed T ms d → ahead (rank T ms ws d) (rank T ms ws c) ≡ false

-- ---- a choice that is always allowed

-- every area left out
unfoldable pub outs : List ℕ → List Mark
outs [] = []
outs (m ∷ ms) = out ∷ outs ms

-- areas taken whole while they fit; the first that does not is partial if something remains, and the rest is left out
unfoldable pub greedy : List ℕ → ℕ → List Mark
greedy [] left = []
greedy (m ∷ ms) left =
    cond (leb m left) (whole ∷ greedy ms (left - m)) (cond (ltb 0 left) (part ∷ outs ms) (out ∷ outs ms))
