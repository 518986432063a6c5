-- What the loop of `code_positions::repeats::first_repeat` keeps true.
use mathlib.Core.Path.{◌≡◌}
use Prim.Native.Nat.{◌/◌}
use lib.ListN.{length}
use Rattle.limits.specs.Shape.{longest}
use Rattle.code_positions.proofs.Repeating.{Passed}
use Rattle.code_positions.proofs.repeats.first_repeat.Given as goal

abbrev pub invariant-loop-i : goal.invariant-loop-i
invariant-loop-i l = (length l.map ≡ longest / 32) × Passed l.positions l.map l.i
