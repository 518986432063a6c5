-- What falls from a call of `decode_product::multiply_out` to the calls of itself in it.
use Rattle.std.proofs.Common.{length}
use Rattle.decode_product.proofs.+multiply_out.Given as goal

abbrev pub decreases-multiply_out : goal.decreases-multiply_out
decreases-multiply_out l = length l.cells.now
