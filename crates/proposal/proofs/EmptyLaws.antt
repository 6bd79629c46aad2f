-- Document 01, "The proposal": what an empty S gives. Assumes nothing.
use Prim.Native.Nat.{ℕ}
use mathlib.Core.Path.{◌≡◌}
use mathlib.Core.List.{List, []}
use Rattle.lists.specs.Filters.{filter, up_to, foremost, first_or}
use Rattle.coverage.specs.declared.Holding.{Holding}
use Rattle.subset.specs.Sets as sets
use Rattle.subset.specs.Rule.{smallest}
use Rattle.proposal.specs.Choices.{
  partials,
  total_value,
  choices,
  whole_areas,
  part_areas,
  whole_size,
  share,
  allowed_by,
  allowed,
  allowed_choices,
  makes_part,
  no_part,
}
use Rattle.proposal.specs.Best.{is_all_whole, white_space, white_per, rank, ahead, best, tied, drawn, chosen}
use Rattle.proposal.specs.Answer.{kind_of, given, answer_of, proposal}

-- "An empty S gives kind 1 and T 0", with no white space and no tied area, whatever the map and the draw
pub empty-s : (areas : List Holding) (draw : ℕ) → partials areas ≡ []
    → proposal areas draw ≡ record { refused = 0; kind = 1; target = 0; white = 0; tied = 0; areas = given 1 0 areas [] }
unfolding proposal answer_of kind_of chosen drawn tied best ahead rank white_per white_space is_all_whole no_part makes_part allowed_choices
    allowed allowed_by share whole_size part_areas whole_areas choices total_value smallest sets.set_number filter up_to foremost first_or
empty-s areas draw e = rw e
