-- SHAPE of a transform: "a transform's length is 0, above 4096 or no power of two".
use Rattle.std.specs.Prelude.{Bool, ◌||◌, not, ℕ, ltb, eqb}
use Rattle.limits.specs.Shape.{longest}
use Rattle.field.specs.Size.{size_of}

-- `size_of N` is the smallest power of two that is at least N
unfoldable pub bad_length : ℕ → Bool
bad_length N = eqb N 0 || ltb longest N || not (eqb (size_of N) N)
