-- Equality modulo 65537 of numbers that need not be reduced: in it the laws of the field and of polynomials are exact.
use Rattle.std.specs.Prelude.{◌≡◌, ℕ, ◌%◌}

infix 50 ◌≈◌
pub record ◌≈◌ (a b : ℕ) : Type 0 where
  pub mods : a % 65537 ≡ b % 65537
