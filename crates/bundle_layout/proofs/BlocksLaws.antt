-- B and L: L ≤ 2kB, and every block begins inside the file.
-- Assumes nothing.
use Prim.Native.Nat.{ℕ, ◌+◌, ◌*◌, ◌-◌, ◌<◌, ◌≤◌}
use native.Mathlib.Nat.{div-add-mod, mod-lt, mul-le-mul_left}
use native.Mathlib.Omega.{arith}
use Rattle.bundle_layout.specs.Blocks.{blocks_of}

pub block_inside : (k L b : ℕ) → 0 < k → b < blocks_of k L → 2 * (k * b) < L
unfolding blocks_of
block_inside k L b some h =
    omega (arith, div-add-mod (L + (2 * k - 1)) (2 * k), mul-le-mul_left (2 * k) h)

pub blocks_hold : (k L : ℕ) → 0 < k → L ≤ 2 * (k * blocks_of k L)
unfolding blocks_of
blocks_hold k L some =
    omega (arith, div-add-mod (L + (2 * k - 1)) (2 * k), mod-lt (L + (2 * k - 1)) {m = 2 * k} (omega arith))
