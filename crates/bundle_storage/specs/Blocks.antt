-- The most blocks that a body can have: "B at most 65,535", so that a block number takes 2 bytes.
use Rattle.std.specs.Prelude.{ℕ}

unfoldable pub most_blocks : ℕ
most_blocks = 65535
