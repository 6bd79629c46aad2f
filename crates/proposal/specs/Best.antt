-- Document 01, "The proposal": ranks, the best choices, the tied areas, the draw and the one choice that wins. Assumes nothing.
use Rattle.std.specs.Prelude.{ℕ, ◌-◌, ◌*◌, ◌%◌, Bool, true, false, cond, not, ◌&&◌, List, [], ◌∷◌, ltb, leb, length, get_or}
use Rattle.lists.specs.Sums.{any}
use Rattle.lists.specs.Filters.{filter, up_to, foremost}
use Rattle.coverage.specs.declared.Holding.{Holding}
use Rattle.coverage.specs.Blocks.{size}
use Rattle.search.specs.Choice.{Mark}
use Rattle.subset.specs.Rule.{smallest}
use Rattle.proposal.specs.Choices.{part_areas, share, allowed_choices, makes_part, no_part, whole_set}

-- what a choice is ranked by: all-whole or not, its white space, and its white-space people, which are the fraction white / per
pub record Rank : Type 0 where
  pub all_whole : Bool
  pub white : ℕ
  pub per : ℕ

-- "All-whole means exact, or 10 × share ≥ 9 × M"
unfoldable pub is_all_whole : (sh : ℕ) → (parts : List Holding) → Bool
is_all_whole sh [] = true
is_all_whole sh (a ∷ l) = leb (9 * size a) (10 * sh)

-- "White space is M - share, or 0 if exact"
unfoldable pub white_space : (sh : ℕ) → (parts : List Holding) → ℕ
white_space sh [] = 0
white_space sh (a ∷ l) = size a - sh

-- "White-space people are white space / (100 × the partial area's weight), compared as fractions, or 0 if exact": the divisor
unfoldable pub white_per : (parts : List Holding) → ℕ
white_per [] = 1
white_per (a ∷ l) = 100 * a.weight

unfoldable pub rank : (s : List Holding) → List Mark → Rank
rank s c = record {
  all_whole = is_all_whole (share s c) (part_areas s c);
  white = white_space (share s c) (part_areas s c);
  per = white_per (part_areas s c);
}

-- "All-whole choices rank ahead of the others; then less white space; then fewer white-space people"
unfoldable pub ahead : Rank → Rank → Bool
ahead a b =
    cond (a.all_whole && not b.all_whole) true
    (cond (b.all_whole && not a.all_whole) false
    (cond (ltb a.white b.white) true
    (cond (ltb b.white a.white) false
    (ltb (a.white * b.per) (b.white * a.per)))))

-- "best-ranked choices": the allowed choices that no allowed choice ranks ahead of
unfoldable pub best : (s : List Holding) → List (List Mark)
best s = foremost (λ d c. ahead (rank s d) (rank s c)) (allowed_choices s)

-- "The tied areas are the partial areas of best-ranked choices": by their places in S, ascending
unfoldable pub tied : (s : List Holding) → List ℕ
tied s = filter (λ p. any (makes_part p) (best s)) (up_to (length s))

-- "the area at place draw mod tied, from 0, ascending. Among best choices with that area, or among exact ones"
unfoldable pub drawn : (ties : List ℕ) → (draw : ℕ) → List (List Mark) → List (List Mark)
drawn [] draw cs = filter no_part cs
drawn (p ∷ ps) draw cs = filter (makes_part (get_or (p ∷ ps) (draw % length (p ∷ ps)) 0)) cs

-- "the smallest set number wins"
unfoldable pub chosen : (s : List Holding) → (draw : ℕ) → List Mark
chosen s draw = smallest whole_set [] (drawn (tied s) draw (best s))
