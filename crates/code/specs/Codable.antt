-- What the checks of encode, rooms aside, leave of a message.
use Rattle.std.specs.Prelude.{◌≡◌, false, List, ℕ, length}
use Rattle.limits.specs.Shape.{bad_shape}
use Rattle.field.specs.Symbol.{Symbols}

pub record Codable (n : ℕ) (message : List ℕ) : Type 0 where
  pub shape : bad_shape (length message) n ≡ false
  pub symbols : Symbols message
