-- What SHAPE leaves of k and n, and that the longest code word has its root in the table: what callers use of the limit.
-- Assumes nothing.
use mathlib.Core.Path.{◌≡◌, sym}
use mathlib.Core.Bool.{false, ◌||◌}
use Prim.Native.Nat.{ℕ, ◌^◌, ◌<◌, ◌≤◌}
use native.Mathlib.Nat.{le_of_eq, le_trans}
use native.Mathlib.Omega.{arith}
use borrow.Author.Tests.{ltb-false, eqb-false}
use lib.Dec.{ltb, eqb, lit≤}
use Rattle.limits.specs.Shape.{longest, bad_shape}
use Rattle.field.specs.Size.{level_of, size_of}
use Rattle.answers.proofs.Checks.{or_false}
use Rattle.field.proofs.Sizes.{size_power, size_enough, size_least, level_least, level_size}

pub longest_le : longest ≤ 65536
unfolding longest
longest_le = lit≤ tt

-- and so has twice its length
pub longest_twice : longest ≤ 2 ^ 15
unfolding longest
longest_twice = lit≤ tt

pub shape_good : (k n : ℕ) → bad_shape k n ≡ false → (0 < k) × (k ≤ n) × (n ≤ longest)
unfolding bad_shape
shape_good k n e =
    let front = or_false (eqb k 0 || ltb n k) (ltb longest n) e in
    let none = or_false (eqb k 0) (ltb n k) front.0 in
    (omega (arith, eqb-false k 0 none.0), ltb-false n k none.1, ltb-false longest n front.1)

-- K is no more than N
pub size_le : (k n : ℕ) → bad_shape k n ≡ false → size_of k ≤ size_of n
size_le k n shape =
    let good = shape_good k n shape in
    le_trans
    (size_least k (level_of n) (le_trans good.1 (le_trans (size_enough n (le_trans good.2 longest_le)) (le_of_eq (size_power n)))))
    (le_of_eq (sym (size_power n)))

-- the root of order 2N is in the table
pub level_twice : (n : ℕ) → n ≤ longest → level_of (size_of n) < 16
level_twice n short = omega (arith, level_size n, level_least n 15 (le_trans short longest_twice))
