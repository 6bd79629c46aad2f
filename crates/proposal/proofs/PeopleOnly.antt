-- Document 02, Paper 1: "Ranking and shares read people only". What a proposal reads of an area (proofs/Terms) has no cells in it. Assumes
-- nothing.
use mathlib.Core.Path.{◌≡◌, ap}
use mathlib.Core.List.{List, [], ◌∷◌}
use Rattle.coverage.specs.declared.Holding.{Holding}
use Rattle.coverage.specs.Blocks.{remainder, rounds_up, whole_blocks, partial, value, size}
use Rattle.proposal.specs.Terms.{Pairwise, SameTerms}
use Rattle.proposal.specs.PeopleOnly.{SameButCells, PeopleOnly}
use Rattle.proposal.proofs.Terms.{terms-only}

-- an area with its cells put to 0
abbrev bare : Holding → Holding
bare a = record {
  number = a.number;
  weight = a.weight;
  population = a.population;
  covered = a.covered;
  cells = record { 0 = 0 };
}

-- areas that differ in their cells alone agree in what a proposal reads
same-terms : {a b : Holding} → SameButCells a b → SameTerms a b
unfolding whole_blocks partial value size rounds_up remainder
same-terms {a} {b} h =
    let e : bare a ≡ bare b = λ i. record {
      number = h.number i;
      weight = h.weight i;
      population = h.population i;
      covered = h.covered i;
      cells = record { 0 = 0 };
    } in
    record {
      number = h.number;
      weight = h.weight;
      whole = ap whole_blocks e;
      part = ap partial e;
      value = ap value e;
      size = ap size e;
    }

all-terms : (xs ys : List Holding) → Pairwise SameButCells xs ys → Pairwise SameTerms xs ys
all-terms [] [] h = tt
all-terms [] (b ∷ ys) h = absurd h
all-terms (a ∷ xs) [] h = absurd h
all-terms (a ∷ xs) (b ∷ ys) h = (same-terms h.0, all-terms xs ys h.1)

-- "Ranking and shares read people only"
pub people-only : PeopleOnly
people-only xs ys h = terms-only xs ys (all-terms xs ys h)
