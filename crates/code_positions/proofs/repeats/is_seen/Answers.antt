-- `code_positions::repeats::is_seen` meets its contract: what the bit is worth is no zero.
-- Assumes nothing.
use lib.Pow.{pow_pos}
use Rattle.code_positions.specs.Bitmap.{seen}
use Rattle.code_positions.proofs.repeats.is_seen.Goals as goal

pub nonzero_div-result-2 : goal.nonzero_div-result-2
unfolding seen
nonzero_div-result-2 c = rw c.bit_of-bit.ensures (pow_pos _)

pub returns : goal.returns
unfolding seen
returns c = rw c.bit_of-bit.ensures
