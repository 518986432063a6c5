-- What the loop of `decode_product::sums::run` keeps true.
use mathlib.Core.Path.{◌≡◌}
use mathlib.Core.List.{List}
use Prim.Native.Nat.{ℕ, suc, ◌-◌, ◌*◌, ◌≤◌}
use lib.ListN.{length, get_or}
use Rattle.poly.specs.Sum.{total}
use Rattle.decode_product.proofs.sums.run.Given as goal

-- what is known when i products are added up
pub record Turn (a b : List ℕ) (i sum : ℕ) : Type 0 where
  pub is : sum ≡ total i (λ j. get_or a j 0 * get_or b (length a - suc j) 0)
  pub small : sum ≤ i * 4294967296

abbrev pub invariant-loop-x : goal.invariant-loop-x
invariant-loop-x l = Turn l.a l.b (length l.yielded) l.sum
