-- Every symbol but 0 has the power 65536 equal to 1: from it inverses, and that no product of nonzero symbols is 0.
-- No primality is used. Up to 256 the power is computed by sixteen squarings. A larger a leaves a remainder r below itself in
-- 65537 = q · a + r with q at most 256, so q · a is minus r, and a's power follows from q's and r's.
-- Assumes nothing.
use mathlib.Core.Path.{◌≡◌, refl, sym, ap, ◌∙◌}
use mathlib.Core.Bool.{Bool}
use mathlib.Core.Logic.{inl, inr}
use Prim.Native.Nat.{ℕ, zero, suc, ◌+◌, ◌*◌, ◌^◌, ◌/◌, ◌%◌, ◌<◌}
use native.Mathlib.Decide.{dec_le}
use native.Mathlib.Nat.{not-suc-le-zero, pow-suc, two-pow-succ, div-add-mod', mod-lt, eq-zero-or-pos, zero-mul, mul-le-mul_left, pos_of_ne-zero}
use native.Mathlib.Omega.{arith}
use lib.Dec.{eqb, eqb→eq, lit<}
use Rattle.field.specs.Congruence.{◌≈◌}
use Rattle.field.specs.Field.{power, inverse}
use Rattle.field.proofs.Congruence.{≈-of, ≈-sym, ◌∘≈◌, ◌+≈◌, ◌·≈◌, mul-≈, pow-≈, mod-≈, comb, wrap, reduced}
use Rattle.field.proofs.Table.{at}
use Rattle.field.proofs.Powers.{mul_pow, pow_one, pow_two, minus_one}

-- x to the power 2 ^ n, by n squarings
squared : ℕ → ℕ → ℕ
squared zero x = x
squared (suc n) x = squared n (x * x % 65537)

squared_is : (n x : ℕ) → squared n x ≈ x ^ (2 ^ n)
unfolding squared
squared_is zero x = ≈-of (sym (pow_one x))
squared_is (suc n) x =
    squared_is n (x * x % 65537) ∘≈ pow-≈ (mod-≈ (x * x)) (2 ^ n)
    ∘≈ ≈-of (sym (pow_two x (2 ^ n)) ∙ ap (x ^◌) (omega (arith, two-pow-succ n)))

-- the test that antt computes for 1 to 256
right : ℕ → Bool
unfolding squared
right x = eqb (squared 16 (suc x)) 1

small : (x : ℕ) → x < 256 → suc x ^ 65536 ≈ 1
unfolding right squared
small x h = ≈-sym (squared_is 16 (suc x)) ∘≈ ≈-of (eqb→eq (squared 16 (suc x)) 1 (at right 256 tt x h))

-- a number whose power 65536 is 1 divides nothing but 0 into 0
divide : (q a : ℕ) → q ^ 65536 ≈ 1 → q * a ≈ 0 → a ≈ 0
divide q a one none =
    comb (≈-sym (a ·≈ one) +≈ q ^ 65535 ·≈ none) 0 0 (omega (arith, ap (λ (z : ℕ). a * z) (pow-suc q 65535)))

-- the step for a larger a: q · a + r is 65537
step : (q a r : ℕ) → q * a + r ≡ 65537 → q ^ 65536 ≈ 1 → r ^ 65536 ≈ 1 → a ^ 65536 ≈ 1
step q a r e hq hr =
    comb (a ^ 65536 ·≈ ≈-sym hq) 0 0 (omega arith)
    ∘≈ ≈-of (sym (mul_pow q a 65536))
    ∘≈ pow-≈ (wrap r 1 (omega arith)) 65536
    ∘≈ ≈-of (mul_pow 65536 r 65536)
    ∘≈ mul-≈ (minus_one 65536 32768 (wrap 0 1 refl)) hr

-- a above 256, from every smaller number
larger : (a q r : ℕ) → q * a + r ≡ 65537 → r < a → 256 < a → a < 65537 → ((b : ℕ) → b < a → 0 < b → b ^ 65536 ≈ 1)
    → a ^ 65536 ≈ 1
larger a zero r e less high low smaller = absurd (omega (arith, zero-mul a))
larger a (suc q) r e less high low smaller =
    elim (eq-zero-or-pos r) [
      | inl none ↦ absurd (omega (arith, reduced (divide (suc q) a power_q (wrap 0 1 (omega arith))) low (lit< tt)))
      | inr some ↦ step (suc q) a r e power_q (smaller r less some)
    ]
  where
    power_q : suc q ^ 65536 ≈ 1
    power_q = small q (omega (arith, mul-le-mul_left (suc q) high))

-- by induction on a bound of a
below : (bound a : ℕ) → a < bound → 0 < a → a < 65537 → a ^ 65536 ≈ 1
below zero a h p l = absurd (not-suc-le-zero h)
below (suc bound) zero h p l = absurd (not-suc-le-zero p)
below (suc bound) (suc a) h p l =
    elim (dec_le (suc a) 256) [
      | yes few ↦ small a few
      | no many ↦
          larger (suc a) (65537 / suc a) (65537 % suc a) (div-add-mod' 65537 (suc a)) (mod-lt 65537 p) (omega arith) l
          (λ b less some. below bound b (omega arith) some (omega arith))
    ]

pub fermat : (a : ℕ) → ¬ (a ≈ 0) → a ^ 65536 ≈ 1
fermat a h =
    pow-≈ (≈-sym (mod-≈ a)) 65536
    ∘≈ below 65537 (a % 65537) (omega arith) (pos_of_ne-zero (λ e. h (record { mods = e }))) (omega arith)

-- the inverse is an inverse, also of a number that is not reduced
pub inverse-≈ : (a : ℕ) → ¬ (a ≈ 0) → a * inverse a ≈ 1
unfolding inverse power
inverse-≈ a h = a ·≈ mod-≈ (a ^ 65535) ∘≈ comb (fermat a h) 0 0 (omega (arith, pow-suc a 65535))

pub no_divisors : (a b : ℕ) → a * b ≈ 0 → ¬ (a ≈ 0) → b ≈ 0
no_divisors a b none some = divide a b (fermat a some) none
