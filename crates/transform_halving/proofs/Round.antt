-- Two sums at roots that are inverse to each other give N times the list: the exchange of sums, and that the powers of a root other than 1
-- add up to 0. So the inverse undoes the transform, and the transform the inverse.
-- Assumes nothing.
use mathlib.Core.Path.{◌≡◌, refl, sym, ap, ◌∙◌}
use mathlib.Core.List.{List}
use Prim.Native.Nat.{ℕ, zero, suc, ◌+◌, ◌*◌, ◌^◌, ◌%◌, ◌<◌}
use native.Mathlib.Nat.{mul_comm, pow-suc, pow-zero}
use native.Mathlib.Omega.{arith}
use lib.ListN.{length, get_or}
use Rattle.field.specs.Congruence.{◌≈◌}
use Rattle.field.proofs.Congruence.{≈-refl, ≈-of, ◌∘≈◌, ◌·≈◌, mul-≈, pow-≈, mod-≈, comb}
use Rattle.field.proofs.Fermat.{no_divisors}
use Rattle.field.proofs.Powers.{pow_times, mul_pow, full_power}
use Rattle.poly.specs.Sum.{total}
use Rattle.poly.specs.Value.{value}
use Rattle.poly.proofs.Sum.{total_ext, total-≈, total_scale, total_swap, total_single}
use Rattle.poly.proofs.Values.{plain_sum, value_tab}
use Rattle.transform_halving.proofs.Sums.{values}

-- The powers of z, added up

geometric : ℕ → ℕ → ℕ
geometric n z = total n (λ j. z ^ j)

geometric_suc : (n z : ℕ) → geometric (suc n) z ≡ 1 + z * geometric n z
unfolding geometric total
geometric_suc n z =
    omega (
      arith,
      pow-zero z,
      total_ext n (λ j. z ^ suc j) (λ j. z * z ^ j) (λ j h. pow-suc z j ∙ mul_comm (z ^ j) z),
      total_scale n (λ j. z ^ j) z,
    )

-- one power more at the end, or one at the front
geometric_step : (n z : ℕ) → 1 + z * geometric n z ≡ geometric n z + z ^ n
geometric_step zero z = unfold geometric total in omega (arith, pow-zero z)
geometric_step (suc n) z =
    omega (arith, geometric_suc n z, ap (z *◌) (geometric_suc n z), ap (z *◌) (geometric_step n z), pow-suc z n)

-- the powers of a root other than 1 add up to 0
geometric_none : (n z : ℕ) → z ^ n ≈ 1 → ¬ (z ≈ 1) → geometric n z ≈ 0
geometric_none n z full other =
    no_divisors (z + 65536) (geometric n z)
    (comb full 0 (geometric n z) (omega (arith, geometric_step n z)))
    (λ e. other (comb e 1 0 (omega arith)))

geometric_ones : (n : ℕ) → geometric n 1 ≡ n
geometric_ones zero = unfold geometric total in refl
geometric_ones (suc n) = omega (arith, geometric_suc n 1, geometric_ones n)

geometric_one : (n z : ℕ) → z ≈ 1 → geometric n z ≈ n
unfolding geometric
geometric_one n z one = total-≈ n (λ j. z ^ j) (λ j. 1 ^ j) (λ j h. pow-≈ one j) ∘≈ ≈-of (geometric_ones n)

-- r and q are inverse to each other, and the powers of r below n are distinct
pub record Opposite (r q n : ℕ) : Type 0 where
  pub full : r ^ n ≈ 1
  pub full' : q ^ n ≈ 1
  pub apart : (i l : ℕ) → i < n → l < n → r ^ i * q ^ l ≈ 1 → i ≡ l
  pub meet : (l : ℕ) → r ^ l * q ^ l ≈ 1

-- the values at the powers of r, valued at y: the sums sums-exchanged
sums_exchanged : (r n y : ℕ) (a : List ℕ)
    → value (values r n a) y ≈ total (length a) (λ i. get_or a i 0 * geometric n (r ^ i * y))
unfolding values geometric
sums_exchanged r n y a =
    ≈-of (value_tab n (λ j. value a (r ^ j) % 65537) y)
    ∘≈ total-≈ n _ (λ j. total (length a) (λ i. get_or a i 0 * (r ^ i * y) ^ j)) (λ j h. moved j)
    ∘≈ ≈-of (total_swap n (length a) (λ j i. get_or a i 0 * (r ^ i * y) ^ j) ∙ total_ext (length a) _ _ (λ i h. total_scale n (λ j. (r ^ i * y) ^ j) (get_or a i 0)))
  where
    entry : (i j : ℕ) → y ^ j * (get_or a i 0 * (r ^ j) ^ i) ≡ get_or a i 0 * (r ^ i * y) ^ j
    entry i j = rw (mul_pow (r ^ i) y j, ← pow_times r i j, ← pow_times r j i, mul_comm j i) (omega arith)

    moved : (j : ℕ) → value a (r ^ j) % 65537 * y ^ j ≈ total (length a) (λ i. get_or a i 0 * (r ^ i * y) ^ j)
    moved j =
        mul-≈ (mod-≈ (value a (r ^ j))) (≈-refl {a = y ^ j})
        ∘≈ ≈-of (mul_comm _ (y ^ j) ∙ ap (y ^ j *◌) (plain_sum a (r ^ j))
        ∙ sym (total_scale (length a) (λ i. get_or a i 0 * (r ^ j) ^ i) (y ^ j))
        ∙ total_ext (length a) _ _ (λ i h. entry i j))

-- there and back: n times the list
pub round : (r q n : ℕ) → Opposite r q n → (a : List ℕ) → length a ≡ n → (l : ℕ) → l < n
    → value (values r n a) (q ^ l) ≈ n * get_or a l 0
round r q n o a e l h =
    sums_exchanged r n (q ^ l) a
    ∘≈ total_single (length a) (λ i. get_or a i 0 * geometric n (r ^ i * q ^ l)) l (omega arith)
    (λ i k other. get_or a i 0 ·≈ geometric_none n (r ^ i * q ^ l) (full_turn i) (λ one. other (o.apart i l (omega arith) h one))
    ∘≈ ≈-of {b = 0} (omega arith))
    ∘≈ get_or a l 0 ·≈ geometric_one n (r ^ l * q ^ l) (o.meet l)
    ∘≈ ≈-of (mul_comm (get_or a l 0) n)
  where
    full_turn : (i : ℕ) → (r ^ i * q ^ l) ^ n ≈ 1
    full_turn i = ≈-of (mul_pow (r ^ i) (q ^ l) n) ∘≈ mul-≈ (full_power r n i o.full) (full_power q n l o.full')
