-- Folded coefficients have, at the powers of w, the values of the polynomial at the points between.
-- Assumes nothing.
use mathlib.Core.Path.{◌≡◌, sym, ap, ◌∙◌}
use mathlib.Core.List.{List}
use Prim.Native.Nat.{ℕ, ◌+◌, ◌*◌, ◌/◌, ◌^◌, ◌%◌}
use native.Mathlib.Nat.{mul_comm}
use native.Mathlib.Omega.{arith}
use lib.Pow.{pow-add}
use lib.ListN.{length, get_or}
use Rattle.field.specs.Congruence.{◌≈◌}
use Rattle.field.specs.Field.{power}
use Rattle.field.specs.Points.{root_of}
use Rattle.field.proofs.Congruence.{≈-of, ≈-refl, ≈-sym, ◌∘≈◌, ◌·≈◌, mul-≈, pow-≈, mod-≈}
use Rattle.field.proofs.Powers.{mul_pow, full_power, one_pow, pow_times}
use Rattle.field.proofs.Ring.{power-≈}
use Rattle.poly.specs.Sum.{total}
use Rattle.poly.specs.Value.{value}
use Rattle.poly.proofs.Sum.{total-≈, total_scale}
use Rattle.lists.proofs.Tab.{tab_length, tab_ext}
use Rattle.poly.proofs.Values.{plain_sum, value_tab}
use Rattle.transform_halving.specs.Transform.{transform_of}
use Rattle.transform_halving.proofs.Sums.{values}
use Rattle.transform_halving.proofs.Undo.{transform_values}
use Rattle.decode_between.specs.Between.{psi, between, values_between, folded}
use Rattle.decode_between.proofs.Grid.{columns}

module _ (N K : ℕ) (f : List ℕ) (rows : N ≡ N / K * K) (long : length f ≡ N) (one : root_of K ^ K ≈ 1) where
  -- a term of the sum: going round K times changes nothing
  term : (l b i : ℕ) → get_or f (b * K + i) 0 * power (psi N) (b * K + i) * (root_of K ^ l) ^ i ≈ get_or f (b * K + i) 0 * between N K l ^ (b * K + i)
  unfolding between
  term l b i =
      ≈-of (omega arith)
      ∘≈ get_or f (b * K + i) 0 ·≈
      (mul-≈ (power-≈ (psi N) (b * K + i)) (≈-of once ∘≈ mul-≈ (≈-sym round) (≈-refl {a = (root_of K ^ l) ^ i}) ∘≈ ≈-of together)
      ∘≈ ≈-of (sym (mul_pow (psi N) (root_of K ^ l) (b * K + i))))
    where
      once : (root_of K ^ l) ^ i ≡ 1 * (root_of K ^ l) ^ i
      once = omega arith

      round : (root_of K ^ l) ^ (b * K) ≈ 1
      round = ≈-of (ap ((root_of K ^ l) ^◌) (mul_comm b K) ∙ pow_times (root_of K ^ l) K b) ∘≈ pow-≈ (full_power (root_of K) K l one) b ∘≈ ≈-of (one_pow b)

      together : (root_of K ^ l) ^ (b * K) * (root_of K ^ l) ^ i ≡ (root_of K ^ l) ^ (b * K + i)
      together = sym (pow-add (root_of K ^ l) (b * K) i)

  pub folded_value : (l : ℕ) → value (folded N K f) (root_of K ^ l) ≈ value f (between N K l)
  unfolding folded
  folded_value l =
      ≈-of (value_tab K _ (root_of K ^ l))
      ∘≈ total-≈ K _ (λ i. total (N / K) (λ b. get_or f (b * K + i) 0 * between N K l ^ (b * K + i))) (λ i h. column i)
      ∘≈ ≈-of (sym (columns (N / K) K (λ j. get_or f j 0 * between N K l ^ j))
      ∙ ap (λ (m : ℕ). total m (λ j. get_or f j 0 * between N K l ^ j)) (sym (long ∙ rows))
      ∙ sym (plain_sum f (between N K l)))
    where
      column : (i : ℕ) → total (N / K) (λ b. get_or f (b * K + i) 0 * power (psi N) (b * K + i)) % 65537 * (root_of K ^ l) ^ i
          ≈ total (N / K) (λ b. get_or f (b * K + i) 0 * between N K l ^ (b * K + i))
      column i =
          mul-≈ (mod-≈ _) (≈-refl {a = (root_of K ^ l) ^ i})
          ∘≈ ≈-of (mul_comm _ ((root_of K ^ l) ^ i) ∙ sym (total_scale (N / K) (λ b. get_or f (b * K + i) 0 * power (psi N) (b * K + i)) ((root_of K ^ l) ^ i)))
          ∘≈ total-≈ (N / K) _ _ (λ b h. ≈-of (mul_comm ((root_of K ^ l) ^ i) _) ∘≈ term l b i)

  pub folded_transform : transform_of (folded N K f) ≡ values_between N K f
  folded_transform =
      transform_values (folded N K f)
      ∙ ap (λ (m : ℕ). values (root_of m) m (folded N K f)) folded_long
      ∙ (unfold values values_between in tab_ext K _ _ (λ l h. (folded_value l).mods))
    where
      folded_long : length (folded N K f) ≡ K
      folded_long = unfold folded in tab_length K _
