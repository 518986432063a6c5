-- What the loop of `decode_product::sums::fill` keeps true.
use mathlib.Core.Path.{◌≡◌}
use Prim.Native.Nat.{◌+◌}
use lib.ListN.{length}
use Rattle.lists.proofs.Window.{window}
use Rattle.decode_product.specs.Factors.{coefficient}
use Rattle.decode_product.proofs.sums.fill.Given as goal

abbrev pub invariant-loop-i : goal.invariant-loop-i
invariant-loop-i l =
    (l.below ≡ window 0 l.i (coefficient l.a l.b) l.initial.below)
    × (l.above ≡ window 0 l.i (λ i. coefficient l.a l.b (length l.a + i)) l.initial.above)
