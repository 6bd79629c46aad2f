-- Sums over licences. What callers read of the licences in force is a sum, so it does not depend on their order. Assumes nothing.
use Rattle.std.specs.Prelude.{ℕ, ◌≤◌, ◌≡◌, Bool, false, cond, List}
use Rattle.lists.specs.Sums.{total, flag}
use Rattle.register.specs.declared.Licence.{Licence}
use Rattle.register.specs.Licences.{has_sign}

-- "The list of demand 3": the licences in force are the lines, in any order, since every sum over the one is the sum over the other
abbrev pub SameLicences : List Licence → List Licence → Type 0
SameLicences xs ys = (f : Licence → ℕ) → total f xs ≡ total f ys

-- "The list of demand 3": 1 for a line that has the call sign
abbrev pub signs : ℕ → Licence → ℕ
signs s l = flag (has_sign s l)

-- "The list of demand 3": no two lines share a call sign
abbrev pub OnceEach : List Licence → Type 0
OnceEach lines = (s : ℕ) → total (signs s) lines ≤ 1

-- "The register": what a place adds to a sum over the licences in force, nothing where it is free
unfoldable pub at_place : (Licence → ℕ) → Licence → ℕ
at_place f l = cond (has_sign 0 l) 0 (f l)

-- "The register": whether what stands at a place is in force and passes a test
unfoldable pub passes_at : (Licence → Bool) → Licence → Bool
passes_at p l = cond (has_sign 0 l) false (p l)
