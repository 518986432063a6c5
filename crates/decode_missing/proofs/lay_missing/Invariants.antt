-- What the loop of `decode_missing::lay_missing` keeps true.
use mathlib.Core.Path.{◌≡◌}
use mathlib.Core.List.{List}
use Prim.Native.Nat.{ℕ, ◌+◌}
use lib.ListN.{length}
use Rattle.field.specs.Points.{point_of}
use Rattle.decode_missing.specs.Missing.{unmarked}
use Rattle.decode_missing.proofs.Laying.{laid}
use Rattle.decode_missing.proofs.lay_missing.Given as goal

-- what is known inside the loop
pub record Turn (N : ℕ) (marks points : List ℕ) (turn place j : ℕ) : Type 0 where
  pub counted : place + length (unmarked N marks j) ≡ N
  pub turns : turn ≡ point_of N j
  pub is : points ≡ laid N marks place j

abbrev pub invariant-loop-mark : goal.invariant-loop-mark
invariant-loop-mark l = Turn l.size l.marks l.points l.turn l.place l.mark-index
