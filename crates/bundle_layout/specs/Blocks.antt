-- B, how many blocks a file has.
use Rattle.std.specs.Prelude.{ℕ, ◌+◌, ◌*◌, ◌-◌, ◌/◌}

-- "B is L / (2k) rounded up; L = 0 gives B = 0."
unfoldable pub blocks_of : ℕ → ℕ → ℕ
blocks_of k L = (L + (2 * k - 1)) / (2 * k)
