-- `block::rooms::decode_work` meets its contract: 4N, which fits as N does.
-- Assumes nothing.
use mathlib.Core.Path.{ap}
use Prim.Native.Nat.{◌*◌}
use native.Mathlib.Omega.{arith}
use Rattle.field.proofs.Sizes.{size_small}
use Rattle.code.specs.Rooms.{decode_work}
use Rattle.block.proofs.rooms.decode_work.Goals as goal

pub overflow_mul-result : goal.overflow_mul-result
unfolding decode_work
overflow_mul-result c = omega (arith, size_small _ _ c.size.ensures)

pub returns : goal.returns
unfolding decode_work
returns c = ap (4 *◌) c.size.ensures
