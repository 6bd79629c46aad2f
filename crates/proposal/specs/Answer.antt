-- Document 01, "The proposal": the answer. Assumes nothing.
use Rattle.std.specs.Prelude.{ℕ, cond, List, [], ◌∷◌, map, ltb, eqb, length}
use Rattle.map.specs.Reading.{Read, bad, good}
use Rattle.map.specs.Format.{Area}
use Rattle.register.specs.declared.Licence.{Licence}
use Rattle.coverage.specs.declared.Holding.{Holding}
use Rattle.coverage.specs.Cover.{holdings_of}
use Rattle.coverage.specs.Blocks.{partial, whole_blocks}
use Rattle.search.specs.Choice.{Mark, out, whole, part}
use Rattle.proposal.specs.Choices.{partials, total_value, part_areas, share}
use Rattle.proposal.specs.Best.{is_all_whole, white_space, tied, chosen}

-- "kind (1 exact, 2 rounded up, 3 one part)": by the share and the partial area of the choice
unfoldable pub kind_of : (sh : ℕ) → (parts : List Holding) → ℕ
kind_of sh [] = 1
kind_of sh (a ∷ l) = cond (is_all_whole sh (a ∷ l)) 2 3

-- "what it gets (nothing, whole, rounded up, or share with its amount)"
pub data Gets : Type 0 where
  gets_nothing : Gets
  gets_whole : Gets
  gets_rounded_up : Gets
  gets_share : (amount : ℕ) → Gets

-- by the proposal's kind and share and the mark of the area
unfoldable pub gets_by : (kind sh : ℕ) → Mark → Gets
gets_by kind sh out = gets_nothing
gets_by kind sh whole = gets_whole
gets_by kind sh part = cond (eqb kind 2) gets_rounded_up (gets_share sh)

-- "for each map area its whole blocks and what it gets"; document 02, Paper 1: "The proposal shows the sum of cells for each map area"
pub record Given : Type 0 where
  pub number : ℕ
  pub blocks : ℕ
  pub cells : ℕ
  pub gets : Gets

-- the mark of the next partial area, and the marks after it
unfoldable pub first_mark : List Mark → Mark
first_mark [] = out
first_mark (m ∷ c) = m

unfoldable pub later_marks : List Mark → List Mark
later_marks [] = []
later_marks (m ∷ c) = c

-- each area of the map with its sum of cells; the partial ones take the choice's marks in turn, and any other gets nothing beside its
-- whole blocks
unfoldable pub given : (kind sh : ℕ) → (areas : List Holding) → List Mark → List Given
given kind sh [] c = []
given kind sh (a ∷ areas) c =
    record {
      number = a.number;
      blocks = whole_blocks a;
      cells = a.cells.0;
      gets = cond (partial a) (gets_by kind sh (first_mark c)) gets_nothing;
    }
    ∷ given kind sh areas (cond (partial a) (later_marks c) c)

-- "The answer: kind, T, white space, tied count, and for each map area ..". `refused` is 0, or the number of the refusal
pub record Proposal : Type 0 where
  pub refused : ℕ
  pub kind : ℕ
  pub target : ℕ
  pub white : ℕ
  pub tied : ℕ
  pub areas : List Given

-- document 02, Paper 1: "the sum of cells for each map area": an area's number with its sum
pub record AreaCells : Type 0 where
  pub number : ℕ
  pub cells : ℕ

abbrev pub cells_given : Given → AreaCells
cells_given g = record { number = g.number; cells = g.cells }

-- "The proposal shows the sum of cells for each map area": what it shows
abbrev pub cells_shown : Proposal → List AreaCells
cells_shown p = map cells_given p.areas

-- a refusal by its number, which comes alone: everything else is 0
unfoldable pub refused_by : ℕ → Proposal
refused_by n = record { refused = n; kind = 0; target = 0; white = 0; tied = 0; areas = [] }

-- the answer for a choice from S
unfoldable pub answer_of : (areas : List Holding) → List Mark → Proposal
answer_of areas c =
    let s = partials areas in
    let sh = share s c in
    let k = kind_of sh (part_areas s c) in
    record {
      refused = 0;
      kind = k;
      target = total_value s;
      white = white_space sh (part_areas s c);
      tied = length (tied s);
      areas = given k sh areas c;
    }

-- "12: more than 20 partial areas"; else the answer for the choice that wins. "An empty S gives kind 1 and T 0"
unfoldable pub proposal : (areas : List Holding) → (draw : ℕ) → Proposal
proposal areas draw = cond (ltb 20 (length (partials areas))) (refused_by 12) (answer_of areas (chosen (partials areas) draw))

-- "Proposal: 1 to 5, 12": over a map's bytes and the licences in force
unfoldable pub proposal_on : Read (List Area) → List Licence → (draw : ℕ) → Proposal
proposal_on (bad n) licences draw = refused_by n
proposal_on (good areas e) licences draw = proposal (holdings_of licences areas) draw
