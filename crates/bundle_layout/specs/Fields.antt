-- The fields of a bundle as they are read: what stands in its header and its table.
use Rattle.std.specs.Prelude.{List, ℕ, ◌+◌, ◌*◌}
use Rattle.bundle_layout.specs.Blocks.{blocks_of}
use Rattle.bundle_storage.specs.Bytes.{two_at, four_at}
use Rattle.bundle_layout.specs.Shadows.{header_size, entry_size}

-- the header: k, n, L, m, and the two bytes behind them

unfoldable pub k_in : List ℕ → ℕ
k_in s = two_at s 4

unfoldable pub n_in : List ℕ → ℕ
n_in s = two_at s 6

unfoldable pub length_in : List ℕ → ℕ
length_in s = four_at s 8

unfoldable pub held_in : List ℕ → ℕ
held_in s = two_at s 12

unfoldable pub last_in : List ℕ → ℕ
last_in s = two_at s 14

-- B
unfoldable pub blocks_in : List ℕ → ℕ
blocks_in s = blocks_of (k_in s) (length_in s)

-- entry t of the table

unfoldable pub entry_at : ℕ → ℕ
entry_at t = header_size + entry_size * t

unfoldable pub position_in : List ℕ → ℕ → ℕ
position_in s t = two_at s (entry_at t)

unfoldable pub count_in : List ℕ → ℕ → ℕ
count_in s t = two_at s (entry_at t + 2)

unfoldable pub offset_in : List ℕ → ℕ → ℕ
offset_in s t = four_at s (entry_at t + 4)
