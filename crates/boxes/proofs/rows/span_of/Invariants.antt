-- `boxes::rows::span_of`: the coordinates so far are joined. Assumes nothing.
use Rattle.std.proofs.Common.{◌≡◌, get_or, pos, negsuc}
use Rattle.std.specs.Int.{int_min, int_max}
use Rattle.boxes.specs.Rows.{join_to}
use Rattle.boxes.proofs.rows.span_of.Given as goal

abbrev pub invariant-loop-value : goal.invariant-loop-value
invariant-loop-value l =
    (l.least ≡ join_to int_min (pos 2_147_483_647) (λ k. get_or l.values k (pos 0)) l.value-index)
    × (l.greatest ≡ join_to int_max (negsuc 2_147_483_647) (λ k. get_or l.values k (pos 0)) l.value-index)
