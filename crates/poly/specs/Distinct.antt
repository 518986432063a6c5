-- The numbers of a list are distinct modulo 65537.
use Rattle.std.specs.Prelude.{List, [], ◌∷◌, ℕ}
use Rattle.field.specs.Congruence.{◌≈◌}
use Rattle.lists.specs.Every.{Every}

unfoldable pub Distinct : List ℕ → Type 0
Distinct [] = Unit {0}
Distinct (x ∷ xs) = Every (λ y. ¬ (y ≈ x)) xs × Distinct xs
