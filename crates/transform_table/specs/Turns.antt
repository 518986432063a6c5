-- A table of turns: the powers of a root, at a distance from each other, so that a table for N numbers serves N/2 too.
use Rattle.std.specs.Prelude.{◌≡◌, List, ℕ, ◌*◌, ◌/◌, ◌<◌, ◌≤◌, length, get_or}
use Rattle.field.specs.Field.{power}
use Rattle.field.specs.Points.{root_of}
use Rattle.transform_halving.specs.Transformable.{Transformable}

-- every step-th number of the table is the next power of the root, `count` of them
pub record TurnsOf (root count : ℕ) (table : List ℕ) (step : ℕ) : Type 0 where
  pub inside : count * step ≤ length table
  pub is : (j : ℕ) → j < count → get_or table (j * step) 0 ≡ power root j

-- what a transform by a table asks: a list that can be transformed, and the turns of its root
pub record Tabled (list table : List ℕ) (step : ℕ) : Type 0 where
  pub able : Transformable list
  pub turns : TurnsOf (root_of (length list)) (length list / 2) table step
