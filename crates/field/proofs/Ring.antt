-- The field is a commutative ring, and powers multiply as powers do. Products go by congruence, sums and differences by omega.
-- Assumes nothing.
use mathlib.Core.Path.{◌≡◌, ap}
use Prim.Native.Nat.{ℕ, suc, ◌+◌, ◌*◌, ◌^◌, ◌%◌, ◌<◌, ◌≤◌}
use native.Mathlib.Nat.{pow-suc, pow-zero, mul-le-mul, le_of_suc-le-suc}
use native.Mathlib.Omega.{arith}
use lib.Pow.{pow-add}
use Rattle.field.specs.Congruence.{◌≈◌}
use Rattle.field.specs.Field.{sum, difference, product, power, inverse}
use Rattle.field.proofs.Powers.{pow_times, mul_pow}
use Rattle.field.proofs.Congruence.{≈-refl, ≈-of, ≈-sym, ◌∘≈◌, ◌+≈◌, ◌·≈◌, mul-≈, pow-≈, mod-≈}

-- Each operation is below 65537, and congruent to the plain one

pub sum_lt : (a b : ℕ) → sum a b < 65537
unfolding sum
sum_lt a b = omega arith

pub difference_lt : (a b : ℕ) → difference a b < 65537
unfolding difference
difference_lt a b = omega arith

pub product_lt : (a b : ℕ) → product a b < 65537
unfolding product
product_lt a b = omega arith

pub power_lt : (x n : ℕ) → power x n < 65537
unfolding power
power_lt x n = omega arith

pub inverse_lt : (x : ℕ) → inverse x < 65537
unfolding inverse
inverse_lt x = power_lt x 65535

pub difference-≈ : (a b : ℕ) → difference a b ≈ a + 65536 * b
unfolding difference
difference-≈ a b = mod-≈ (a + 65536 * b)

pub product-≈ : (a b : ℕ) → product a b ≈ a * b
unfolding product
product-≈ a b = mod-≈ (a * b)

pub power-≈ : (x n : ℕ) → power x n ≈ x ^ n
unfolding power
power-≈ x n = mod-≈ (x ^ n)

-- Sums and differences

pub sum_comm : (a b : ℕ) → sum a b ≡ sum b a
unfolding sum
sum_comm a b = omega arith

pub sum_assoc : (a b c : ℕ) → sum (sum a b) c ≡ sum a (sum b c)
unfolding sum
sum_assoc a b c = omega arith

pub sum_zero : {a : ℕ} → a < 65537 → sum a 0 ≡ a
unfolding sum
sum_zero h = omega arith

pub sum_difference : {a : ℕ} → a < 65537 → (b : ℕ) → sum (difference a b) b ≡ a
unfolding sum difference
sum_difference h b = omega arith

pub difference_sum : {a : ℕ} → a < 65537 → (b : ℕ) → difference (sum a b) b ≡ a
unfolding sum difference
difference_sum h b = omega arith

-- Products

pub product_comm : (a b : ℕ) → product a b ≡ product b a
unfolding product
product_comm a b = ap (◌% 65537) (omega arith)

pub product_assoc : (a b c : ℕ) → product (product a b) c ≡ product a (product b c)
unfolding product
product_assoc a b c =
    (mul-≈ (mod-≈ (a * b)) (≈-refl {a = c}) ∘≈ ≈-of (omega arith) ∘≈ a ·≈ ≈-sym (mod-≈ (b * c))).mods

pub product_one : {a : ℕ} → a < 65537 → product a 1 ≡ a
unfolding product
product_one h = omega arith

pub product_sum : (a b c : ℕ) → product a (sum b c) ≡ sum (product a b) (product a c)
unfolding product sum
product_sum a b c =
    (a ·≈ mod-≈ (b + c) ∘≈ ≈-of (omega arith) ∘≈ ≈-sym (mod-≈ (a * b) +≈ mod-≈ (a * c))).mods

-- Powers

pub power_zero : (x : ℕ) → power x 0 ≡ 1
unfolding power
power_zero x = ap (◌% 65537) (pow-zero x)

pub power_step : (x n : ℕ) → power x (suc n) ≡ product (power x n) x
unfolding power product
power_step x n = (≈-of (pow-suc x n) ∘≈ mul-≈ (≈-sym (mod-≈ (x ^ n))) ≈-refl).mods

pub power_plus : (x m n : ℕ) → power x (m + n) ≡ product (power x m) (power x n)
unfolding power product
power_plus x m n = (≈-of (pow-add x m n) ∘≈ mul-≈ (≈-sym (mod-≈ (x ^ m))) (≈-sym (mod-≈ (x ^ n)))).mods

pub power_times : (x m n : ℕ) → power x (m * n) ≡ power (power x m) n
unfolding power
power_times x m n = (≈-of (pow_times x m n) ∘≈ pow-≈ (≈-sym (mod-≈ (x ^ m))) n).mods

pub power_product : (x y n : ℕ) → power (product x y) n ≡ product (power x n) (power y n)
unfolding power product
power_product x y n =
    (pow-≈ (mod-≈ (x * y)) n ∘≈ ≈-of (mul_pow x y n) ∘≈ mul-≈ (≈-sym (mod-≈ (x ^ n))) (≈-sym (mod-≈ (y ^ n)))).mods

-- the plain product of two symbols is no more than 2^32
pub symbols_product : (a b : ℕ) → a < 65537 → b < 65537 → a * b ≤ 4294967296
symbols_product a b la lb = mul-le-mul {n₂ = 65536} {m₂ = 65536} (le_of_suc-le-suc la) (le_of_suc-le-suc lb)
