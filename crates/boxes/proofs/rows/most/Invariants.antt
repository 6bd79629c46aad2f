-- `boxes::rows::most`: the people so far are joined. Assumes nothing.
use Rattle.std.proofs.Common.{◌≡◌, get_or, max}
use Rattle.boxes.specs.Rows.{join_to}
use Rattle.boxes.proofs.rows.most.Given as goal

abbrev pub invariant-loop-held : goal.invariant-loop-held
invariant-loop-held l = l.most ≡ join_to max 0 (λ k. get_or l.people k 0) l.held-index
