-- `decode_product::sums::high` meets its contract: from the length on the products that are left count, and each list's number times the other's 1.
-- Assumes nothing.
use mathlib.Core.Path.{refl, ◌∙◌}
use Prim.Native.Nat.{◌+◌}
use native.Mathlib.Omega.{arith}
use Rattle.decode_product.proofs.Runs.{run_behind, high_is}
use Rattle.decode_product.proofs.sums.high.Goals as goal

pub returns : goal.returns
returns c =
    high_is c.args.a.now c.args.b.now _ refl c.requires.0.long c.args.i c.requires.1 _ _ _
    (c.run.ensures.0 ∙ run_behind c.args.a.now c.args.b.now (c.args.i + 1) c.requires.0.long (omega arith))
    c.from.ensures
    c.from-2.ensures
