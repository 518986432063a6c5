-- The numbers at the even places of a list, and those at the odd places; places are counted from 0.
use Rattle.std.specs.Prelude.{List, [], ◌∷◌, ℕ}

unfoldable mutual
  pub evens : List ℕ → List ℕ
  evens [] = []
  evens (a ∷ s) = a ∷ odds s

  pub odds : List ℕ → List ℕ
  odds [] = []
  odds (a ∷ s) = evens s
