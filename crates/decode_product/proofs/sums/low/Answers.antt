-- `decode_product::sums::low` meets its contract: below the length every product of the two lists counts, and nothing else.
-- Assumes nothing.
use mathlib.Core.Path.{refl, ◌∙◌}
use Prim.Native.Nat.{◌+◌}
use native.Mathlib.Omega.{arith}
use Rattle.decode_product.proofs.Runs.{run_front, low_is}
use Rattle.decode_product.proofs.sums.low.Goals as goal

pub returns : goal.returns
returns c =
    low_is c.args.a.now c.args.b.now _ refl c.requires.0.long c.args.i c.requires.1 _
    (c.run.ensures.0 ∙ run_front c.args.a.now c.args.b.now _ (c.args.i + 1) c.requires.0.long (omega arith) (omega arith))
