-- Products of factors X - z, one for each z of a list.
use Rattle.std.specs.Prelude.{List, [], ◌∷◌, ℕ}
use Rattle.poly.specs.Raised.{raised}

-- f times X - z for each z of zs
unfoldable pub times : List ℕ → List ℕ → List ℕ
times f [] = f
times f (z ∷ zs) = raised z 0 (times f zs)

-- the product of X - z over zs: it is 0 at the points of zs and nowhere else
unfoldable pub vanishing : List ℕ → List ℕ
vanishing zs = times (1 ∷ []) zs
