-- SHAPE of a bundle: that of a block, and "for bundles also L or B above its limit".
use Rattle.std.specs.Prelude.{Bool, ◌||◌, ℕ, ltb}
use Rattle.limits.specs.Shape.{bad_shape}
use Rattle.bundle_storage.specs.Blocks.{most_blocks}
use Rattle.bundle_layout.specs.Blocks.{blocks_of}

-- "L is at most 1,048,576 and B at most 65,535."
unfoldable pub longest_file : ℕ
longest_file = 1048576

unfoldable pub bad_bundle_shape : ℕ → ℕ → ℕ → Bool
bad_bundle_shape k n L = bad_shape k n || (ltb longest_file L || ltb most_blocks (blocks_of k L))
