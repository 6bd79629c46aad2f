-- Sums of one unit. Assumes nothing.
use Rattle.std.specs.Prelude.{ℕ, cond, leb}

-- the largest count that a u64 holds
abbrev pub largest : ℕ
largest = 18_446_744_073_709_551_615

-- a sum that stops at the largest count; document 01's sums stay below it, and laws cited by callers say so
unfoldable pub capped : ℕ → ℕ
capped n = cond (leb n largest) n largest
