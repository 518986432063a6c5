-- The polynomial through given points: from y at the first point x it rises by X - x times the polynomial through the slopes at the others.
use Rattle.std.specs.Prelude.{List, [], ◌∷◌, ℕ}
use Rattle.field.specs.Congruence.{◌≈◌}
use Rattle.field.specs.Field.{difference, product, inverse}
use Rattle.poly.specs.Raised.{raised}
use Rattle.poly.specs.Value.{value}

-- (w - y) / (z - x) for each z of zs and its w of ws
unfoldable pub slopes : ℕ → ℕ → List ℕ → List ℕ → List ℕ
slopes x y [] ws = []
slopes x y (z ∷ zs) [] = []
slopes x y (z ∷ zs) (w ∷ ws) = product (difference w y) (inverse (difference z x)) ∷ slopes x y zs ws

-- the polynomial with the value y of ys at each x of xs
unfoldable pub through : List ℕ → List ℕ → List ℕ
through [] ys = []
through (x ∷ xs) [] = []
through (x ∷ xs) (y ∷ ys) = raised x y (through xs (slopes x y xs ys))

-- s has the value y of ys at each x of xs, modulo 65537, and there are as many of the one as of the other
unfoldable pub GoesThrough : List ℕ → List ℕ → List ℕ → Type 0
GoesThrough s [] [] = Unit {0}
GoesThrough s [] (y ∷ ys) = ⊥
GoesThrough s (x ∷ xs) [] = ⊥
GoesThrough s (x ∷ xs) (y ∷ ys) = (value s x ≈ y) × GoesThrough s xs ys
