-- Document 01, "The proposal": the answer that the tables of the search give. Assumes nothing.
use Rattle.std.specs.Prelude.{ℕ, zero, suc, ◌%◌, ◌≤◌, ◌≡◌, Bool, true, false, cond, ◌&&◌, Option, Some, None, ltb, leb, eqb}
use Rattle.std.specs.Prelude.{List, map, [], ◌∷◌, ◌++◌, length, get_or, replicate}
use Rattle.search.specs.declared.Rank.{Rank}
use Rattle.search.specs.declared.Kind.{Kind}
use Rattle.search.specs.declared.Kind.TheVariants.{Exact, RoundedUp, OnePart}
use Rattle.search.specs.declared.Partial.{Partial}
use Rattle.search.specs.declared.Answer.{Answer}
use Rattle.search.specs.Search.{Kept, searched}
use Rattle.search.specs.Choice.{rank_of, ahead, cap, heft, largest_size, largest_weight}

-- ---- the partial areas, ascending

-- their sizes M
abbrev pub sizes : List Partial → List ℕ
sizes = map (λ (p : Partial). p.size.0)

abbrev pub weights : List Partial → List ℕ
weights = map (λ (p : Partial). p.weight)

-- ---- the tables

-- before the search; white space being "M - share" with a share above 0, no allowed choice has as much as its entry here
unfoldable pub start : List ℕ → Kept
start ms = record { white = 1 ∷ ms; least = replicate (suc (length ms)) 0 }

-- and after it
unfoldable pub table : ℕ → List ℕ → Kept
table T ms = searched ms 0 T 0 0 1 (start ms)

-- an entry holds a choice
unfoldable pub present : List ℕ → List ℕ → ℕ → Bool
present ms wh t = ltb (get_or wh t 0) (get_or (1 ∷ ms) t 0)

-- the rank of the choice that an entry holds
unfoldable pub rank_at : List ℕ → List ℕ → List ℕ → ℕ → Rank
rank_at ms ws wh t = rank_of (cap ms t) (get_or wh t 0) (heft ws t)

-- that rank, where the entry holds a choice
abbrev pub rank_held : List ℕ → List ℕ → List ℕ → ℕ → Option Rank
rank_held ms ws wh t = cond (present ms wh t) (Some (rank_at ms ws wh t)) None

-- ---- the best-ranked

-- of the entries below n none that holds a choice ranks ahead of r
unfoldable pub clear : List ℕ → List ℕ → List ℕ → Rank → ℕ → Bool
clear ms ws wh r zero = true
clear ms ws wh r (suc i) =
    cond (present ms wh i) (cond (ahead (rank_at ms ws wh i) r) false (clear ms ws wh r i)) (clear ms ws wh r i)

-- an entry of "best-ranked choices"
unfoldable pub best_at : List ℕ → List ℕ → List ℕ → ℕ → Bool
best_at ms ws wh t = cond (present ms wh t) (clear ms ws wh (rank_at ms ws wh t) (suc (length ms))) false

-- "The tied areas are the partial areas of best-ranked choices; an exact answer has 0 of them": by their entries up to n, ascending
unfoldable pub tied_to : List ℕ → List ℕ → List ℕ → ℕ → List ℕ
tied_to ms ws wh zero = []
tied_to ms ws wh (suc i) = tied_to ms ws wh i ++ cond (best_at ms ws wh (suc i)) (suc i ∷ []) []

-- "the area at place draw mod tied, from 0, ascending"; entry 0 if no area is tied
unfoldable pub pick : List ℕ → ℕ → ℕ
pick [] draw = 0
pick (t ∷ ts) draw = get_or (t ∷ ts) (draw % length (t ∷ ts)) 0

-- ---- the answer

-- "kind (1 exact, 2 rounded up, 3 one part)"
abbrev pub kind_number : Kind → ℕ
kind_number Exact = 1
kind_number RoundedUp = 2
kind_number OnePart = 3

-- all-whole with a partial area is rounded up
abbrev pub kind_at : List ℕ → List ℕ → List ℕ → ℕ → Kind
kind_at ms ws wh t = cond (eqb t 0) Exact (cond (rank_at ms ws wh t).far OnePart RoundedUp)

-- "kind .. white space, tied count" of the answer, with the entry and the set number of its choice
unfoldable pub answer_at : List ℕ → List ℕ → Kept → ℕ → ℕ → Answer
answer_at ms ws k n t = record {
  kind = kind_at ms ws k.white t;
  white = record { 0 = get_or k.white t 0 };
  tied = n;
  entry = t;
  number = get_or k.least t 0;
}

-- the answer for T, the sizes and weights of S, and a draw
unfoldable pub propose : ℕ → List ℕ → List ℕ → ℕ → Answer
propose T ms ws draw =
    let k = table T ms in
    let ts = tied_to ms ws k.white (length ms) in
    answer_at ms ws k (length ts) (pick ts draw)

-- ---- sizes and weights that no map gives

-- each value is at most a bound
unfoldable pub at_most : ℕ → List ℕ → Bool
at_most most [] = true
at_most most (m ∷ ms) = leb m most && at_most most ms

-- the limits below, as a test: at most 20 areas, as many weights as sizes, and each of them within "The map"
unfoldable pub in_limits : List ℕ → List ℕ → Bool
in_limits ms ws =
    leb (length ms) 20 && (eqb (length ws) (length ms) && (at_most largest_size ms && at_most largest_weight ws))

-- ---- what the functions ask of one another

-- what the map's limits say of S; 12 refuses "more than 20 partial areas"
pub record Limits (ms ws : List ℕ) : Type 0 where
  pub few : length ms ≤ 20
  pub pairs : length ws ≡ length ms
  pub sizes : (i : ℕ) → get_or ms i 0 ≤ largest_size
  pub weights : (i : ℕ) → get_or ws i 0 ≤ largest_weight

-- a rank whose products across fit
pub record Small (r : Rank) : Type 0 where
  pub white : r.white ≤ largest_size
  pub weight : r.weight ≤ largest_weight
