-- Document 01, "The footprint": the cells that are left out of a last ring, which is marked with 2 in a mask. Assumes nothing.
use Rattle.std.specs.Prelude.{ℕ, ◌<◌, ◌≡◌, Bool, true, cond, ◌&&◌, List, map, ltb, leb, eqb, length, get_or}
use Rattle.lists.specs.Filters.{filter, up_to, among}
use Rattle.subset.specs.Sets.{taken_of}
use Rattle.subset.specs.Rule.{the_subset}

-- the people at a place
abbrev pub people_at : List ℕ → ℕ → ℕ
people_at people i = get_or people i 0

-- "cells of B with people, by row then column": the places below n that are marked and have people
unfoldable pub candidates : (mask people : List ℕ) → (n : ℕ) → List ℕ
candidates mask people n = filter (λ i. eqb (get_or mask i 0) 2 && ltb 0 (people_at people i)) (up_to n)

-- "the subset of greatest total .. then of smallest set number", the total being within the slack: the places that are left out
unfoldable pub left_out : (mask people : List ℕ) → (n slack : ℕ) → List ℕ
left_out mask people n slack =
    let cells = candidates mask people n in
    taken_of cells (the_subset (map (people_at people) cells) slack)

-- the table has its slack + 1 entries, every place has a byte and a count of people, and its number is none of the marks for none
unfoldable pub roomy : (mask people n slack table : ℕ) → Bool
roomy mask people n slack table = ltb slack table && leb n 65535 && leb n mask && leb n people

-- "Working store": places that are left out become 0, and the entries past slack + 1 are unchanged; without room nothing changes
pub record LeavesOut (people : List ℕ) (n slack : ℕ) (mask after table entries : List ℕ) : Type 0 where
  pub bytes : (i : ℕ) → get_or after i 0
      ≡ cond (roomy (length mask) (length people) n slack (length table) && among i (left_out mask people n slack)) 0 (get_or mask i 0)
  pub unused : (s : ℕ) → (roomy (length mask) (length people) n slack (length table) ≡ true → slack < s)
      → get_or entries s 0 ≡ get_or table s 0
