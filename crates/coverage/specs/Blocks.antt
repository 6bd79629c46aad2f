-- Document 01, "Coverage and blocks", as document 02, Paper 4, changes it: the blocks of an area, from its weight, its population and its c
-- in MHz-pops. Assumes nothing.
use Rattle.std.specs.Prelude.{ℕ, ◌+◌, ◌*◌, ◌/◌, ◌%◌, Bool, cond, not, ◌&&◌, ltb, leb}
use Rattle.lists.specs.Sums.{flag}
use Rattle.coverage.specs.declared.Holding.{Holding}
use Rattle.coverage.specs.declared.AreaBlocks.{AreaBlocks}

-- document 02, Paper 4: "Whole blocks are c / (100 × pop) with remainder r": the remainder
unfoldable pub remainder : Holding → ℕ
remainder h = h.covered.0 % (100 * h.population.0)

-- document 02, Paper 4: "The 99% rule reads r ≥ 99 × pop": "one more whole block and nothing partial"
unfoldable pub rounds_up : Holding → Bool
rounds_up h = leb (99 * h.population.0) (remainder h)

-- "Whole blocks", the one more included
unfoldable pub whole_blocks : Holding → ℕ
whole_blocks h = h.covered.0 / (100 * h.population.0) + flag (rounds_up h)

-- "Otherwise, if r > 0, the area is partial"
unfoldable pub partial : Holding → Bool
partial h = not (rounds_up h) && ltb 0 (remainder h)

-- document 02, Paper 4: "v is weight × r"
unfoldable pub value : Holding → ℕ
value h = h.weight * remainder h

-- "and size M = 100 × weight × pop"
unfoldable pub size : Holding → ℕ
size h = 100 * h.weight * h.population.0

-- "Blocks of one area answer its whole blocks, v and M, the last two 0 where it isn't partial"
unfoldable pub blocks_of : Holding → AreaBlocks
blocks_of h = record {
  whole = whole_blocks h;
  value = record { 0 = cond (partial h) (value h) 0 };
  size = record { 0 = cond (partial h) (size h) 0 };
}
