-- What falls from a call of `transform_halving::halve` to the calls of itself in it.
use Rattle.std.proofs.Common.{length}
use Rattle.transform_halving.proofs.+halve.Given as goal

abbrev pub decreases-halve : goal.decreases-halve
decreases-halve l = length l.list.now
