-- SHAPE of a block: k = 0, k > n, n > 4096.
use Rattle.std.specs.Prelude.{Bool, ◌||◌, ℕ, ltb, eqb}

-- what n may be at most
unfoldable pub longest : ℕ
longest = 4096

unfoldable pub bad_shape : ℕ → ℕ → Bool
bad_shape k n = eqb k 0 || ltb n k || ltb longest n
