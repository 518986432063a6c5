-- What falls from a call of `transform_table::halve_by` to the calls of itself in it.
use Rattle.std.proofs.Common.{length}
use Rattle.transform_table.proofs.+halve_by.Given as goal

abbrev pub decreases-halve_by : goal.decreases-halve_by
decreases-halve_by l = length l.list.now
