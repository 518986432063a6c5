-- The points between: X^N is -1 there, no product over points of the code word vanishes, and they are distinct.
-- Assumes nothing.
use mathlib.Core.Path.{◌≡◌, sym, ap, ◌∙◌}
use mathlib.Core.List.{List}
use Prim.Native.Nat.{ℕ, ◌+◌, ◌-◌, ◌*◌, ◌^◌, ◌<◌, ◌≤◌}
use native.Mathlib.Omega.{arith}
use lib.Pow.{pow-add}
use Rattle.field.specs.Congruence.{◌≈◌}
use Rattle.field.specs.Points.{root_of}
use Rattle.field.specs.Size.{level_of}
use Rattle.field.proofs.Congruence.{≈-of, ≈-sym, ≈-refl, ◌∘≈◌, ◌+≈◌, ◌·≈◌, pow-≈, comb}
use Rattle.field.proofs.Powers.{mul_pow, full_power, one_pow, pow_times}
use Rattle.field.proofs.Roots.{root_half, root_full}
use Rattle.lists.specs.Every.{Every}
use Rattle.poly.specs.Products.{vanishing}
use Rattle.poly.specs.Value.{value}
use Rattle.lists.proofs.Every.{every_map}
use Rattle.poly.proofs.Products.{vanishing_apart}
use Rattle.decode_between.specs.Between.{psi, between}

-- N = 2 ^ e and K = 2 ^ c are powers of two, K no greater than N, and N has a root of order 2N in the table
module _ (N K e c : ℕ) (size_N : N ≡ 2 ^ e) (level_N : level_of N ≡ e) (size_K : K ≡ 2 ^ c) (level_K : level_of K ≡ c) (le : c ≤ e) (few : e < 16) where
  pub psi_half : psi N ^ N + 1 ≈ 0
  unfolding psi
  psi_half = rw (level_N, size_N) (root_half e few)

  pub root_one : root_of K ^ K ≈ 1
  unfolding root_of
  root_one = rw (level_K, size_K) (root_full c (omega arith))

  root_N : root_of K ^ N ≈ 1
  root_N =
      ≈-of (ap (root_of K ^◌) {x = N} {y = K * 2 ^ (e - c)} (size_N ∙ ap (2 ^◌) {x = e} {y = c + (e - c)} (omega arith) ∙ pow-add 2 c (e - c) ∙ ap (◌* 2 ^ (e - c)) (sym size_K)) ∙ pow_times (root_of K) K (2 ^ (e - c)))
      ∘≈ pow-≈ root_one (2 ^ (e - c))
      ∘≈ ≈-of (one_pow (2 ^ (e - c)))

  pub between_half : (i : ℕ) → between N K i ^ N + 1 ≈ 0
  unfolding between
  between_half i =
      comb
      ((≈-of (mul_pow (psi N) (root_of K ^ i) N) ∘≈ psi N ^ N ·≈ full_power (root_of K) N i root_N) +≈ psi_half)
      0 0 (omega arith)

  -- no product over points of the code word vanishes there
  pub between_apart : (i : ℕ) (zs : List ℕ) → Every (λ z. z ^ N ≈ 1) zs → ¬ (value (vanishing zs) (between N K i) ≈ 0)
  between_apart i zs points = vanishing_apart zs (between N K i) (every_map (λ z one same. two z one same) zs points)
    where
      two : (z : ℕ) → z ^ N ≈ 1 → ¬ (z ≈ between N K i)
      two z one same = absurd (omega (arith, (≈-sym (between_half i) ∘≈ (≈-sym (pow-≈ same N) ∘≈ one) +≈ ≈-refl {a = 1}).mods))
