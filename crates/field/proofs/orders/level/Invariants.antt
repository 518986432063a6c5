-- What the loop of `field::orders::level` keeps true.
use mathlib.Core.Path.{◌≡◌}
use mathlib.Core.Bool.{false}
use Prim.Native.Nat.{ℕ, ◌<◌, ◌^◌}
use lib.Dec.{leb}
use Rattle.field.proofs.orders.level.Given as goal

abbrev pub invariant-loop-level : goal.invariant-loop-level
invariant-loop-level l = (l.size ≡ 2 ^ l.level) × ((k : ℕ) → k < l.level → leb l.n (2 ^ k) ≡ false)
