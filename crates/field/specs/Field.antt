-- The field: whole numbers from 0 to 65536, with sum, difference and product taken modulo 65537 (document 01, "The field and its roots").
use Rattle.std.specs.Prelude.{ℕ, ◌+◌, ◌*◌, ◌^◌, ◌%◌}

unfoldable pub sum : ℕ → ℕ → ℕ
sum a b = (a + b) % 65537

-- 65536 is one below the modulus, so it stands for minus one
unfoldable pub difference : ℕ → ℕ → ℕ
difference a b = (a + 65536 * b) % 65537

unfoldable pub product : ℕ → ℕ → ℕ
product a b = a * b % 65537

unfoldable pub power : ℕ → ℕ → ℕ
power x e = x ^ e % 65537

-- "The inverse of a nonzero symbol is its power 65535." Zero has none: `inverse_answer` refuses it.
unfoldable pub inverse : ℕ → ℕ
inverse x = power x 65535
