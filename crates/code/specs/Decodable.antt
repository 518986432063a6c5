-- What the checks before DISAGREE, rooms aside, leave of the held symbols: m ≥ k symbols at true, distinct positions.
use Rattle.std.specs.Prelude.{◌≡◌, false, ℕ, ◌≤◌, length}
use Rattle.limits.specs.Shape.{bad_shape}
use Rattle.field.specs.Symbol.{Symbols}
use Rattle.code.specs.Held.{Held, held_count}
use Rattle.code.specs.Positions.{Inside}
use Rattle.code.specs.Repeats.{Apart}

pub record Decodable (k n : ℕ) (h : Held) : Type 0 where
  pub shape : bad_shape k n ≡ false
  pub paired : held_count h ≡ length h.values
  pub enough : k ≤ held_count h
  pub inside : Inside n h.positions
  pub apart : Apart h.positions
  pub symbols : Symbols h.values
