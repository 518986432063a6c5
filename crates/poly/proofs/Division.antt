-- Division by X - x is exact over whole numbers, and a polynomial is zero where its value at x and its quotient are.
-- Assumes nothing.
use mathlib.Core.Path.{◌≡◌, refl, ap}
use mathlib.Core.List.{List, [], ◌∷◌}
use Prim.Native.Nat.{ℕ, suc, ◌+◌, ◌*◌}
use native.Mathlib.Omega.{arith}
use lib.ListN.{length}
use Rattle.field.specs.Congruence.{◌≈◌}
use Rattle.field.proofs.Congruence.{≈-sym, ◌+≈◌, ◌·≈◌, comb}
use Rattle.poly.specs.Division.{quotient}
use Rattle.lists.specs.Every.{Every}
use Rattle.poly.specs.Value.{value}

pub quotient_length : (a : ℕ) (s : List ℕ) (x : ℕ) → length (quotient a s x) ≡ length s
unfolding quotient
quotient_length a [] x = refl
quotient_length a (b ∷ s) x = ap suc (quotient_length b s x)

pub divided : (a : ℕ) (s : List ℕ) (x y : ℕ)
    → value (a ∷ s) y + x * value (quotient a s x) y ≡ value (a ∷ s) x + y * value (quotient a s x) y
unfolding value quotient
divided a [] x y = omega arith
divided a (b ∷ s) x y = omega (arith, ap (y *◌) (divided b s x y))

-- the first coefficient is the value at x less x times the quotient's first
pub quotient_zero : (a : ℕ) (s : List ℕ) (x : ℕ) → value (a ∷ s) x ≈ 0 → Every (◌≈ 0) (quotient a s x) → Every (◌≈ 0) (a ∷ s)
unfolding value quotient Every
quotient_zero a [] x none rest = (comb none 0 0 (omega arith), tt)
quotient_zero a (b ∷ s) x none rest =
    (comb (none +≈ ≈-sym (x ·≈ rest.0)) 0 0 (omega arith), quotient_zero b s x rest.0 rest.1)
