-- `code_positions::repeats::note_seen` meets its contract: the cell has room for a bit that is not set.
-- Assumes nothing.
use Prim.Native.Nat.{◌/◌}
use native.Mathlib.Omega.{arith}
use Rattle.code_positions.specs.Bitmap.{with_seen}
use Rattle.code_positions.proofs.Bitmap.{seen_fits}
use Rattle.code_positions.proofs.repeats.note_seen.Goals as goal

pub overflow_add-map : goal.overflow_add-map
unfolding with_seen
overflow_add-map c = omega (arith, c.bit_of.ensures, seen_fits _ _ c.requires.1 (omega (arith, c.slice_known-2-1.given (c.args.position / 32))))

pub returns : goal.returns
unfolding with_seen
returns c = rw c.bit_of.ensures
