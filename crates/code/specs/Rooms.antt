-- Room needed: "encode, output n, working space 2N; decode, output k, working space 4N".
use Rattle.std.specs.Prelude.{ℕ, ◌*◌}
use Rattle.field.specs.Size.{size_of}

unfoldable pub encode_work : ℕ → ℕ
encode_work n = 2 * size_of n

unfoldable pub decode_work : ℕ → ℕ
decode_work n = 4 * size_of n
