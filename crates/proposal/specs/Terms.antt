-- What a proposal reads of an area: its number and weight, its whole blocks, whether it is partial, its v and its M, and the cells that it
-- shows. Of population and c it reads nothing else, as a claim about areas that agree in these. Assumes nothing.
use Rattle.std.specs.Prelude.{ℕ, ◌≡◌, List, [], ◌∷◌}
use Rattle.coverage.specs.declared.Holding.{Holding}
use Rattle.coverage.specs.Blocks.{whole_blocks, partial, value, size}
use Rattle.search.specs.Choice.{Mark}
use Rattle.proposal.specs.Choices.{partials, share, allowed}
use Rattle.proposal.specs.Best.{rank}
use Rattle.proposal.specs.Answer.{Given, Proposal, proposal}

-- the lists are as long, and what stands at a place of one is related to what stands there in the other
abbrev pub Pairwise : {A B : Type 0} → (A → B → Type 0) → List A → List B → Type 0
Pairwise R [] [] = Unit {0}
Pairwise R [] (b ∷ m) = ⊥
Pairwise R (a ∷ l) [] = ⊥
Pairwise R (a ∷ l) (b ∷ m) = R a b × Pairwise R l m

-- two areas that agree in what a proposal reads, but for the cells
pub record SameTerms (a b : Holding) : Type 0 where
  pub number : a.number ≡ b.number
  pub weight : a.weight ≡ b.weight
  pub whole : whole_blocks a ≡ whole_blocks b
  pub part : partial a ≡ partial b
  pub value : value a ≡ value b
  pub size : size a ≡ size b

-- what two areas are given differs at most in the cells shown
pub record SameGiven (g h : Given) : Type 0 where
  pub number : g.number ≡ h.number
  pub blocks : g.blocks ≡ h.blocks
  pub gets : g.gets ≡ h.gets

-- two proposals that differ at most in the cells shown
pub record SameProposal (p q : Proposal) : Type 0 where
  pub refused : p.refused ≡ q.refused
  pub kind : p.kind ≡ q.kind
  pub target : p.target ≡ q.target
  pub white : p.white ≡ q.white
  pub tied : p.tied ≡ q.tied
  pub given : Pairwise SameGiven p.areas q.areas

-- every choice has the same share and rank and is allowed or not alike, and for every draw the proposals differ at most in the cells that
-- they show
pub record SameProposals (xs ys : List Holding) : Type 0 where
  pub shares : (c : List Mark) → share (partials xs) c ≡ share (partials ys) c
  pub allows : (c : List Mark) → allowed (partials xs) c ≡ allowed (partials ys) c
  pub ranks : (c : List Mark) → rank (partials xs) c ≡ rank (partials ys) c
  pub proposals : (draw : ℕ) → SameProposal (proposal xs draw) (proposal ys draw)
