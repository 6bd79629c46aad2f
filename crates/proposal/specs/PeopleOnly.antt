-- Document 02, Paper 1: "Ranking and shares read people only", which since Paper 4 means c in MHz-pops and no cells, as a claim about areas
-- that differ in their cells alone. Assumes nothing.
use Rattle.std.specs.Prelude.{◌≡◌, List}
use Rattle.coverage.specs.declared.Holding.{Holding}
use Rattle.proposal.specs.Terms.{Pairwise, SameProposals}

-- two areas that differ at most in their cells
pub record SameButCells (a b : Holding) : Type 0 where
  pub number : a.number ≡ b.number
  pub weight : a.weight ≡ b.weight
  pub population : a.population ≡ b.population
  pub covered : a.covered ≡ b.covered

-- "Ranking and shares read people only": where areas differ in their cells alone, shares, allowed choices and ranks are the same, and
-- proposals differ at most in the cells that they show
abbrev pub PeopleOnly : Type 0
PeopleOnly = (xs ys : List Holding) → Pairwise SameButCells xs ys → SameProposals xs ys
