-- What the loop of `poly::horner::value` keeps true: the result is the value of the coefficients that are passed, from index i on.
use mathlib.Core.Path.{◌≡◌}
use Prim.Native.Nat.{◌%◌, ◌<◌}
use lib.ListN.{drop}
use Rattle.poly.specs.Value.{value}
use Rattle.poly.proofs.horner.value.Given as goal

abbrev pub invariant-loop-i : goal.invariant-loop-i
invariant-loop-i l = (l.result ≡ value (drop l.i l.coefficients) l.x % 65537) × (l.result < 65537)
