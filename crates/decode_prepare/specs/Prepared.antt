-- What decoding has worked out of the positions, in its 4N cells, before it looks at a value.
use Rattle.std.specs.Prelude.{◌≡◌, List, ℕ, ◌*◌, ◌<◌, length, take, drop}
use Rattle.field.specs.Size.{size_of}
use Rattle.decode_between.specs.Foldable.{PsiTable}
use Rattle.decode_divide.specs.Quotients.{InversesBetween}
use Rattle.decode_missing.specs.Missing.{missing_points}
use Rattle.decode_missing.specs.Weights.{weights}

pub record Prepared (k n : ℕ) (marks : List ℕ) (count : ℕ) (cells : List ℕ) : Type 0 where
  pub counted : count ≡ length (missing_points (size_of n) marks)
  pub table : PsiTable (size_of n) cells
  pub weighs : take (size_of n) cells ≡ weights (size_of n) (missing_points (size_of n) marks)
  pub inverses : 0 < count → InversesBetween (size_of n) (size_of k) (missing_points (size_of n) marks) (drop (2 * size_of n) cells)
