-- Each number of a list has a property.
use Rattle.std.specs.Prelude.{List, [], ◌∷◌, ℕ}

unfoldable pub Every : (ℕ → Type 0) → List ℕ → Type 0
Every P [] = Unit {0}
Every P (a ∷ s) = P a × Every P s
