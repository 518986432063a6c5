-- Room needed: "bundle writer, 16 + 8n + 4nB bytes, however few the bundle takes, working space 8N; bundle reader, L bytes, working space 8N".
use Rattle.std.specs.Prelude.{ℕ, ◌+◌, ◌*◌}
use Rattle.field.specs.Size.{size_of}
use Rattle.bundle_layout.specs.Shadows.{first_body}

-- 16 + 8n + 4nB
unfoldable pub write_out : ℕ → ℕ → ℕ
write_out n B = first_body n + 4 * (n * B)

unfoldable pub bundle_work : ℕ → ℕ
bundle_work n = 8 * size_of n
