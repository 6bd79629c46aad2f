-- Document 01, "Holdings to prove by hand count": the table of twelve, and the table of refusals, hold of the definitions. Assumes nothing.
use Prim.Native.Nat.{ℕ}
use mathlib.Core.Path.{◌≡◌, refl}
use mathlib.Core.List.{map, []}
use Rattle.lists.specs.Sums.{some_below, sum_below}
use Rattle.lists.specs.Filters.{filter, up_to, foremost, first_or}
use Rattle.map.specs.Answers.{locate}
use Rattle.coverage.specs.Cover.{holdings_of}
use Rattle.coverage.specs.Blocks.{remainder, rounds_up, whole_blocks, partial, value, size}
use Rattle.subset.specs.Sets as sets
use Rattle.subset.specs.Rule.{smallest, greatest}
use Rattle.proposal.specs.Choices.{
  partials,
  total_value,
  choices,
  whole_areas,
  part_areas,
  whole_size,
  share,
  allowed_by,
  allowed,
  allowed_choices,
  makes_part,
  no_part,
}
use Rattle.proposal.specs.Best.{is_all_whole, white_space, white_per, rank, ahead, best, tied, drawn, chosen}
use Rattle.proposal.specs.Answer.{kind_of, gets_by, first_mark, later_marks, given, refused_by, answer_of, proposal, proposal_on}
use Rattle.proposal.proofs.Theorems.{refused-by}
use Rattle.ring.specs.Ring.{above, below, left, right, some_side, all_sides, around, outside, edge, ring}
use Rattle.rounds.specs.Footprint as outline
use Rattle.footprint.specs.Footprint.{footprint_of, footprint_by, footprint_on}
use Rattle.footprint.specs.Holdings.{rows, comes, expected}
use Rattle.footprint.specs.Refusals as refusals
use Rattle.footprint.specs.Refusals.{cell_areas, area_licences}

-- both tables, evaluated
tables : (map comes rows ≡ map expected rows) × (map refusals.comes refusals.rows ≡ map refusals.expected refusals.rows)
unfolding proposal_on proposal refused_by answer_of given later_marks first_mark gets_by kind_of chosen drawn tied best
    ahead rank white_per white_space is_all_whole no_part makes_part allowed_choices allowed allowed_by share
    whole_size part_areas whole_areas choices total_value partials
    smallest greatest sets.set_number sets.total_of sets.sets sets.taken_of filter up_to foremost first_or some_below sum_below
    remainder rounds_up whole_blocks partial value size locate footprint_of footprint_by footprint_on
    ring around outside edge some_side all_sides above below left right
    outline.value outline.goes_on outline.rounds outline.growing outline.last_set outline.overshoots outline.last_ring outline.outer
    outline.slack outline.ring_cells outline.remains outline.keeps outline.left_out outline.footprint outline.needed
tables = (refl, refl)

pub hand-counts : map comes rows ≡ map expected rows
hand-counts = tables.0

pub refused-counts : map refusals.comes refusals.rows ≡ map refusals.expected refusals.rows
refused-counts = tables.1

-- "12: more than 20 partial areas": with 20 there is a proposal, whatever the draw. Its choices are too many to be listed here
pub twenty-partial : (draw : ℕ) → (proposal (holdings_of (area_licences 20) (cell_areas 20 [])) draw).refused ≡ 0
unfolding partials filter partial rounds_up remainder
twenty-partial draw = refused-by (holdings_of (area_licences 20) (cell_areas 20 [])) draw
