-- Document 01's c and blocks, in which "Each licence is 50 MHz". Document 02, Paper 4, replaces them; the claim is that where every licence
-- in force is 50 MHz wide they are what they were. Assumes nothing.
use Rattle.std.specs.Prelude.{ℕ, ◌+◌, ◌*◌, ◌/◌, ◌%◌, ◌≡◌, Bool, not, ◌&&◌, List, ltb, leb}
use Rattle.lists.specs.Sums.{total, flag, All}
use Rattle.map.specs.Format.{Area}
use Rattle.register.specs.declared.Licence.{Licence}
use Rattle.register.specs.Licences.{full_width}
use Rattle.coverage.specs.declared.Holding.{Holding}
use Rattle.coverage.specs.Cover.{people_by}
use Rattle.coverage.specs.Blocks as blocks

-- ---- document 01's words, with c in people

-- "For an area, c is the sum, over licences in force, of the people in covered cells"
abbrev pub covered_people : List Licence → Area → ℕ
covered_people licences a = total (people_by a) licences

-- "Whole blocks = c / (2 × pop), with remainder r": the remainder
abbrev pub remainder : (pop c : ℕ) → ℕ
remainder pop c = c % (2 * pop)

-- "If 50 × r ≥ 99 × pop, one more whole block and nothing partial"
abbrev pub rounds_up : (pop c : ℕ) → Bool
rounds_up pop c = leb (99 * pop) (50 * remainder pop c)

-- "Whole blocks", the one more included
abbrev pub whole_blocks : (pop c : ℕ) → ℕ
whole_blocks pop c = c / (2 * pop) + flag (rounds_up pop c)

-- "Otherwise, if r > 0, the area is partial"
abbrev pub partial : (pop c : ℕ) → Bool
partial pop c = not (rounds_up pop c) && ltb 0 (remainder pop c)

-- "with value v = 50 × weight × r"
abbrev pub value : (weight pop c : ℕ) → ℕ
value weight pop c = 50 * weight * remainder pop c

-- "and size M = 100 × weight × pop"
abbrev pub size : (weight pop : ℕ) → ℕ
size weight pop = 100 * weight * pop

-- ---- the claim

-- every licence is 50 MHz wide
abbrev pub FullWidths : List Licence → Type 0
FullWidths licences = All (λ (l : Licence). l.width ≡ full_width) licences

-- an area's c is 50 times document 01's, and its blocks, v and M are document 01's for that c
pub record AsBefore (h : Holding) (c : ℕ) : Type 0 where
  pub covered : h.covered.0 ≡ 50 * c
  pub whole : blocks.whole_blocks h ≡ whole_blocks h.population.0 c
  pub part : blocks.partial h ≡ partial h.population.0 c
  pub value : blocks.value h ≡ value h.weight h.population.0 c
  pub size : blocks.size h ≡ size h.weight h.population.0
