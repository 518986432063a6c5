-- What the loop of `decode_between::fold_one` keeps true.
use mathlib.Core.Path.{◌≡◌}
use mathlib.Core.List.{List}
use Prim.Native.Nat.{ℕ, ◌+◌, ◌*◌, ◌≤◌}
use lib.ListN.{length, get_or}
use Rattle.field.specs.Field.{power}
use Rattle.poly.specs.Sum.{total}
use Rattle.decode_between.specs.Between.{psi}
use Rattle.decode_between.proofs.fold_one.Given as goal

abbrev pub term : ℕ → ℕ → ℕ → List ℕ → ℕ → ℕ
term N K i coefficients b = get_or coefficients (b * K + i) 0 * power (psi N) (b * K + i)

-- what is known inside the loop
pub record Turn (N K i : ℕ) (coefficients : List ℕ) (sum b : ℕ) : Type 0 where
  pub is : sum ≡ total b (term N K i coefficients)
  pub low : sum ≤ b * 4294967296

abbrev pub invariant-loop-b : goal.invariant-loop-b
invariant-loop-b l = Turn (length l.coefficients) l.step l.i l.coefficients l.sum l.b
