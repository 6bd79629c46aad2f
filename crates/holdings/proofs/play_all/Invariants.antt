-- `holdings::play_all`: what is left of the block gets shorter. Assumes nothing.
use Rattle.std.proofs.Common.{length}
use Rattle.holdings.proofs.play_all.Given as goal

abbrev pub decreases-loop-rest : goal.decreases-loop-rest
decreases-loop-rest g l = length l.rest
