-- `field::orders::size` meets its contract: 1 shifted by the level is 2 ^ level, which fits.
-- Assumes nothing.
use mathlib.Core.Path.{ap, ◌∙◌}
use Prim.Native.Nat.{◌^◌}
use native.Mathlib.Nat.{one-mul}
use borrow.Author.Rules.{rules}
use lib.Dec.{lit<}
use lib.Pow.{shl_exact}
use Rattle.field.specs.Size.{size_of}
use Rattle.field.proofs.orders.size.Goals as goal

pub returns : goal.returns
unfolding size_of
returns c = shl_exact 1 c.level.result 64 (lit< tt) (search rules) ∙ one-mul _ ∙ ap (2 ^◌) c.level.ensures.is
