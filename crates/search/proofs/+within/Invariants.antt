-- `search::within`: it goes by the number of remaining areas, which falls at each call. Assumes nothing.
use lib.ListN.{length}
use Rattle.search.proofs.+within.Given as goal

abbrev pub decreases-within : goal.decreases-within
decreases-within l = length l.rest.now
