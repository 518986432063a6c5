-- The value of a list of coefficients at a number: s(x) = s_0 + s_1·x + .. + s_(k-1)·x^(k-1), by Horner's rule.
-- It is a whole number and is not reduced, so that the laws of polynomials are plain equations.
use Rattle.std.specs.Prelude.{List, [], ◌∷◌, ℕ, ◌+◌, ◌*◌}

unfoldable pub value : List ℕ → ℕ → ℕ
value [] x = 0
value (a ∷ s) x = a + x * value s x
