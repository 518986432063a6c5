-- Cells that are a power of two, at least four: their quarters, and the two lists that stand at the front of the halves.
-- Assumes nothing.
use mathlib.Core.Path.{◌≡◌, refl, sym, ap, ◌∙◌}
use mathlib.Core.List.{List}
use Prim.Native.Nat.{ℕ, zero, suc, ◌+◌, ◌*◌, ◌^◌, ◌/◌, ◌<◌, ◌≤◌}
use native.Mathlib.Omega.{arith}
use lib.Pow.{pow_mono}
use lib.ListN.{length, get_or, drop, length-drop}
use lib.Seq.{length-take-le, get_or-take, get_or-drop}
use Rattle.field.specs.Size.{level_of, size_of}
use Rattle.field.proofs.Sizes.{level_le, size_power}
use Rattle.decode_product.specs.Halves.{TwoFactors, first_factor, second_factor}

pub record Quarters (d : List ℕ) : Type 0 where
  pub k : ℕ
  pub few : k ≤ 14
  pub short : 2 ^ k ≤ 16384
  pub quarter : length d / 4 ≡ 2 ^ k
  pub half : length d / 2 ≡ 2 * 2 ^ k
  pub whole : length d ≡ 4 * 2 ^ k

pub quarters_of : (d : List ℕ) → length d ≡ size_of (length d) → 4 ≤ length d → Quarters d
quarters_of d size many = at (level_of (length d)) refl
  where
    at : (e : ℕ) → level_of (length d) ≡ e → Quarters d
    at zero e = absurd (omega (arith, size, size_power (length d), ap (2 ^◌) e))
    at (suc zero) e = absurd (omega (arith, size, size_power (length d), ap (2 ^◌) e))
    at (suc (suc k)) e =
        let few : k ≤ 14 = omega (arith, level_le (length d)) in
        record {
          k = k;
          few = few;
          short = omega (arith, pow_mono few);
          quarter = omega (arith, size, size_power (length d), ap (2 ^◌) e);
          half = omega (arith, size, size_power (length d), ap (2 ^◌) e);
          whole = omega (arith, size, size_power (length d), ap (2 ^◌) e);
        }

-- where there are at least two cells, they have halves
pub even_of : (d : List ℕ) → length d ≡ size_of (length d) → 2 ≤ length d → length d ≡ length d / 2 + length d / 2
even_of d size many = at (level_of (length d)) refl
  where
    at : (e : ℕ) → level_of (length d) ≡ e → length d ≡ length d / 2 + length d / 2
    at zero e = absurd (omega (arith, size, size_power (length d), ap (2 ^◌) e))
    at (suc k) e = omega (arith, size, size_power (length d), ap (2 ^◌) e)

module _ (d : List ℕ) (two : TwoFactors d) where
  pub quarters : Quarters d
  quarters = quarters_of d two.size two.many

  pub first_factor_length : length (first_factor d) ≡ length d / 4
  first_factor_length = length-take-le (length d / 4) d (omega arith)

  pub second_factor_length : length (second_factor d) ≡ length d / 4
  second_factor_length = length-take-le (length d / 4) (drop (length d / 2) d) (omega (arith, length-drop (length d / 2) d))

  module _ (i : ℕ) (h : i < length d / 4) where
    pub first_factor_at : get_or d i 0 ≡ get_or (first_factor d) i 0
    first_factor_at = sym (get_or-take (length d / 4) d i 0 h)

    pub second_factor_at : get_or d (length d / 2 + i) 0 ≡ get_or (second_factor d) i 0
    second_factor_at = sym (get_or-take (length d / 4) (drop (length d / 2) d) i 0 h ∙ get_or-drop (length d / 2) d i 0)

    pub first_factor_small : get_or d i 0 < 65537
    first_factor_small = rw first_factor_at (two.first i (omega (arith, first_factor_length)))

    pub second_factor_small : get_or d (length d / 2 + i) 0 < 65537
    second_factor_small = rw second_factor_at (two.second i (omega (arith, second_factor_length)))
