-- `bundle::rooms::bundle_work` meets its contract: 8 times what `size` gives.
-- Assumes nothing.
use native.Mathlib.Omega.{arith}
use borrow.Author.Rules.{rules}
use Rattle.field.proofs.Sizes.{size_small}
use Rattle.bundle_layout.specs.Rooms.{bundle_work}
use Rattle.bundle.proofs.rooms.bundle_work.Goals as goal

pub overflow_mul-result : goal.overflow_mul-result
unfolding bundle_work
overflow_mul-result c = omega (arith, size_small _ _ c.size.ensures)

pub returns : goal.returns
unfolding bundle_work
returns c = search rules
