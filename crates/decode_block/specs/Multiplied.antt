-- A list in which the numbers at the first m positions are multiplied, each by its value.
use Rattle.std.specs.Prelude.{◌≡◌, List, ℕ, ◌<◌, length, get_or}
use Rattle.field.specs.Field.{product}

pub record Multiplied (m : ℕ) (positions values before after : List ℕ) : Type 0 where
  pub long : length after ≡ length before
  pub at : (t : ℕ) → t < m → get_or after (get_or positions t 0) 0 ≡ product (get_or values t 0) (get_or before (get_or positions t 0) 0)
  pub other : (j : ℕ) → ((t : ℕ) → t < m → ¬ (get_or positions t 0 ≡ j)) → get_or after j 0 ≡ get_or before j 0
