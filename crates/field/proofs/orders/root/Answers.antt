-- `field::orders::root` meets its contract: the constant array is document 01's table.
-- Assumes nothing.
use mathlib.Core.Path.{refl}
use Rattle.field.specs.Roots.{roots, root}
use Rattle.field.proofs.Roots.{root_lt}
use Rattle.field.proofs.orders.root.Goals as goal

pub returns : goal.returns
unfolding root roots
returns c = record { is = refl; small = root_lt _ c.requires }
