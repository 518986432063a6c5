-- Division by X - x: the quotient's coefficients are the values at x of what follows each coefficient.
use Rattle.std.specs.Prelude.{List, [], ◌∷◌, ℕ}
use Rattle.poly.specs.Value.{value}

-- the quotient of a ∷ s, one coefficient shorter; the remainder is the value at x
unfoldable pub quotient : ℕ → List ℕ → ℕ → List ℕ
quotient a [] x = []
quotient a (b ∷ s) x = value (b ∷ s) x ∷ quotient b s x
