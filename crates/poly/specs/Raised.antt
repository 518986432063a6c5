-- The coefficients of y + (X - x)·h, as symbols: of degree one more than h, with the value y at x.
use Rattle.std.specs.Prelude.{List, [], ◌∷◌, ℕ, ◌%◌}
use Rattle.field.specs.Field.{difference, product}

unfoldable pub raised : ℕ → ℕ → List ℕ → List ℕ
raised x y [] = y % 65537 ∷ []
raised x y (h ∷ t) = difference y (product x h) ∷ raised x h t
