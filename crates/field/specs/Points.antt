-- From a position to a point: position i stands for r ^ i, r being the root of order N (document 01, "The field and its roots").
use Rattle.std.specs.Prelude.{ℕ}
use Rattle.field.specs.Field.{power}
use Rattle.field.specs.Roots.{root}
use Rattle.field.specs.Size.{level_of}

-- the root of order N
unfoldable pub root_of : ℕ → ℕ
root_of N = root (level_of N)

-- the point that position i stands for
unfoldable pub point_of : ℕ → ℕ → ℕ
point_of N i = power (root_of N) i
