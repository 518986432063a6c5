-- A message: k symbols.
use Rattle.std.specs.Prelude.{◌≡◌, List, ℕ, length}
use Rattle.field.specs.Symbol.{Symbols}

pub record IsMessage (k : ℕ) (s : List ℕ) : Type 0 where
  pub long : length s ≡ k
  pub symbols : Symbols s
