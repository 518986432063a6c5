-- Powers: the laws over ℕ that the library lacks, and the even powers of minus one modulo 65537.
-- Assumes nothing.
use mathlib.Core.Path.{◌≡◌, sym, ap, ◌∙◌}
use Prim.Native.Nat.{ℕ, zero, suc, ◌+◌, ◌*◌, ◌^◌}
use native.Mathlib.Nat.{pow-suc, pow-zero, mul_comm, mul-suc, mul-zero}
use native.Mathlib.Omega.{arith}
use lib.Pow.{pow-add}
use Rattle.field.specs.Congruence.{◌≈◌}
use Rattle.field.proofs.Congruence.{≈-of, ≈-sym, ◌∘≈◌, ◌+≈◌, ◌·≈◌, pow-≈, comb}

pub one_pow : (n : ℕ) → 1 ^ n ≡ 1
one_pow zero = pow-zero 1
one_pow (suc n) = rw pow-suc (omega (arith, one_pow n))

pub mul_pow : (x y n : ℕ) → (x * y) ^ n ≡ x ^ n * y ^ n
mul_pow x y zero = rw (pow-zero (x * y), pow-zero x, pow-zero y)
mul_pow x y (suc n) = rw (pow-suc (x * y) n, pow-suc x n, pow-suc y n, mul_pow x y n) (omega arith)

pub pow_times : (x m n : ℕ) → x ^ (m * n) ≡ (x ^ m) ^ n
pow_times x m zero = rw (mul-zero m, pow-zero x, pow-zero (x ^ m))
pow_times x m (suc n) = rw (mul-suc m n, pow-add x (m * n) m, pow-suc (x ^ m) n, pow_times x m n)

pub pow_one : (x : ℕ) → x ^ 1 ≡ x
pow_one x = pow-suc x 0 ∙ rw (pow-zero x) (omega arith)

pub pow_two : (x n : ℕ) → x ^ (2 * n) ≡ (x * x) ^ n
pow_two x n = pow_times x 2 n ∙ ap (◌^ n) (pow-suc x 1 ∙ ap (◌* x) (pow_one x))

-- where the power n of a number is 1, so it is for each power of that number
pub full_power : (x n i : ℕ) → x ^ n ≈ 1 → (x ^ i) ^ n ≈ 1
full_power x n i full =
    ≈-of (sym (pow_times x i n) ∙ ap (x ^◌) (mul_comm i n) ∙ pow_times x n i) ∘≈ pow-≈ full i ∘≈ ≈-of (one_pow i)

-- minus one squared is 1, so an even power of it is
pub minus_one : (x n : ℕ) → x + 1 ≈ 0 → x ^ (2 * n) ≈ 1
minus_one x n h = rw pow_two (pow-≈ square n ∘≈ ≈-of (one_pow n))
  where
    square : x * x ≈ 1
    square = comb (x ·≈ h +≈ ≈-sym h) 0 0 (omega arith)
