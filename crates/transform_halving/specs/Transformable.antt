-- What the functions of this crate ask of a list: a power of two of symbols.
use Rattle.std.specs.Prelude.{◌≡◌, List, ℕ, length}
use Rattle.field.specs.Size.{size_of}
use Rattle.field.specs.Symbol.{Symbols}

pub record Transformable (a : List ℕ) : Type 0 where
  pub size : length a ≡ size_of (length a)
  pub symbols : Symbols a
