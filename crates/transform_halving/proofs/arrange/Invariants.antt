-- What the loop of `transform_halving::arrange` keeps true.
use mathlib.Core.Path.{◌≡◌}
use mathlib.Core.List.{List}
use Prim.Native.Nat.{ℕ}
use lib.ListN.{length}
use Rattle.field.specs.Size.{level_of}
use Rattle.transform_halving.specs.Order.{reversed}
use Rattle.transform_halving.proofs.Arranging.{Arranging}
use Rattle.transform_halving.proofs.arrange.Given as goal

pub record Met (d list : List ℕ) (i place : ℕ) : Type 0 where
  pub reverse : place ≡ reversed (level_of (length d)) i
  pub arranging : Arranging (length d) (reversed (level_of (length d))) d list i

abbrev pub invariant-loop-i : goal.invariant-loop-i
invariant-loop-i l = Met l.initial.list l.list l.i l.place
