-- What the loop of `decode_product::singly::raise` keeps true.
use mathlib.Core.Path.{◌≡◌}
use mathlib.Core.List.{List, ◌∷◌}
use Prim.Native.Nat.{ℕ, ◌<◌}
use lib.ListN.{get_or}
use Rattle.poly.specs.Raised.{raised}
use Rattle.lists.proofs.Window.{window}
use Rattle.decode_product.proofs.singly.raise.Given as goal

-- what is known inside the loop: w is what the cells held
pub record Turn (w : List ℕ) (x : ℕ) (cells : List ℕ) (passed i : ℕ) : Type 0 where
  pub carried : passed ≡ get_or (0 ∷ w) i 0
  pub small : passed < 65537
  pub is : cells ≡ window 0 i (λ j. get_or (raised x 0 w) j 0) w

abbrev pub invariant-loop-cell : goal.invariant-loop-cell
invariant-loop-cell l = Turn l.initial.cells l.x l.cells l.passed l.cell-index
