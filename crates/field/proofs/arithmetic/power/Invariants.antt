-- What the loop of `field::arithmetic::power` keeps true, and what falls with each turn.
use Prim.Native.Nat.{◌*◌, ◌^◌, ◌<◌}
use Rattle.field.specs.Congruence.{◌≈◌}
use Rattle.field.proofs.arithmetic.power.Given as goal

abbrev pub invariant-loop-left : goal.invariant-loop-left
invariant-loop-left l = (l.result * l.base ^ l.left ≈ l.x ^ l.exponent) × (l.result < 65537)

abbrev pub decreases-loop-left : goal.decreases-loop-left
decreases-loop-left l = l.left
