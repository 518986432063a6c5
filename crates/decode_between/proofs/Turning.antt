-- The powers of ψ are the turns of the transforms of N and of K: every (2N/K)-th of them is a power of the root of order K.
-- Assumes nothing.
use mathlib.Core.Path.{◌≡◌, refl, sym, ap, subst, ◌∙◌}
use mathlib.Core.List.{List}
use Prim.Native.Nat.{ℕ, suc, ◌+◌, ◌-◌, ◌*◌, ◌/◌, ◌^◌, ◌<◌, ◌≤◌}
use native.Mathlib.Nat.{mul_comm, mul-le-mul, mul-div_cancel, div-eq_of_eq-mul_left, div-mul-le_self, le_of_eq, le_trans}
use native.Mathlib.Omega.{arith}
use lib.ListN.{length, get_or, drop, length-drop}
use lib.Pow.{pow-add, pow_pos}
use Rattle.field.specs.Field.{power}
use Rattle.field.specs.Points.{root_of}
use Rattle.field.specs.Roots.{root}
use Rattle.field.specs.Size.{level_of, size_of}
use Rattle.field.specs.Symbol.{Symbols}
use Rattle.field.proofs.Ring.{power_times}
use Rattle.field.proofs.Roots.{root_is}
use Rattle.field.proofs.Sizes.{level_least, size_power}
use Rattle.lists.proofs.Tab.{tab_at}
use Rattle.transform_table.specs.Turns.{TurnsOf, Tabled}
use Rattle.decode_between.specs.Between.{psi}
use Rattle.decode_between.specs.Foldable.{PsiTable}
use Rattle.decode_between.proofs.Foldable.{size_N}

-- each root of the table is a power of each later one
root_power : (i d : ℕ) → i + d < 17 → power (root (i + d)) (2 ^ d) ≡ root i
root_power i d h =
    ap (λ (r : ℕ). power r (2 ^ d)) (root_is (i + d) h)
    ∙ sym (power_times 3 (2 ^ (16 - (i + d))) (2 ^ d))
    ∙ ap (power 3) (sym (pow-add 2 (16 - (i + d)) d) ∙ ap (2 ^◌) {x = 16 - (i + d) + d} {y = 16 - i} (omega arith))
    ∙ sym (root_is i (omega arith))

module _ (N K : ℕ) (cells : List ℕ) (table : PsiTable N cells) (K_power : K ≡ size_of K) (K_fits : K ≤ N) where
  e : ℕ
  e = level_of N

  c : ℕ
  c = level_of K

  levels : c ≤ e
  unfolding e c
  levels = level_least K (level_of N) (le_trans K_fits (le_of_eq (size_N N cells table)))

  size_K : K ≡ 2 ^ c
  unfolding c
  size_K = K_power ∙ size_power K

  steps : 2 * N / K ≡ 2 ^ (suc e - c)
  unfolding e
  steps = div-eq_of_eq-mul_left (omega (arith, size_K, pow_pos c)) whole
    where
      whole : 2 * N ≡ 2 ^ (suc (level_of N) - c) * K
      whole =
          omega (arith, size_N N cells table)
          ∙ ap (2 ^◌) {x = suc (level_of N)} {y = suc (level_of N) - c + c} (omega (arith, levels))
          ∙ pow-add 2 (suc (level_of N) - c) c
          ∙ ap (2 ^ (suc (level_of N) - c) *◌) (sym size_K)

  turn_root : power (psi N) (2 * N / K) ≡ root_of K
  unfolding psi root_of e c
  turn_root =
      ap (power (root (suc (level_of N)))) steps
      ∙ ap (λ (i : ℕ). power (root i) (2 ^ (suc (level_of N) - level_of K))) {x = suc (level_of N)} {y = level_of K + (suc (level_of N) - level_of K)} (omega (arith, levels))
      ∙ root_power (level_of K) (suc (level_of N) - level_of K) (omega (arith, levels, table.N_root))

  half : K / 2 * (2 * N / K) ≤ N
  half = omega (arith, div-mul-le_self (2 * N) K, mul-le-mul {n₂ = K} {m₂ = 2 * N / K} (twice K) (le_of_eq refl))
    where
      twice : (x : ℕ) → 2 * (x / 2) ≤ x
      twice x = omega arith

  below : (j : ℕ) → j < K / 2 → j * (2 * N / K) < N
  below j l = omega (arith, half, mul-le-mul {n₂ = K / 2} {m₂ = 2 * N / K} l (le_of_eq refl), steps, pow_pos (suc e - c))

  -- what a transform of K numbers asks; t are the powers
  module _ (t : List ℕ) (lent : t ≡ drop (3 * N) cells) where
    turns : TurnsOf (root_of K) (K / 2) t (2 * N / K)
    turns =
        record {
          inside = omega (arith, half, table.long, ap length lent, length-drop (3 * N) cells);
          is = λ j l.
              ap (λ (s : List ℕ). get_or s (j * (2 * N / K)) 0) (lent ∙ table.powers)
              ∙ tab_at N (power (psi N)) (j * (2 * N / K)) (below j l)
              ∙ ap (power (psi N)) (mul_comm j (2 * N / K))
              ∙ power_times (psi N) (2 * N / K) j
              ∙ ap (λ (x : ℕ). power x j) turn_root;
        }

    pub tabled : (s : List ℕ) → length s ≡ K → Symbols s → Tabled s t (2 * N / K)
    tabled s long small =
        record {
          able = record { size = long ∙ K_power ∙ ap size_of (sym long); symbols = small };
          turns = subst (λ (n : ℕ). TurnsOf (root_of n) (n / 2) t (2 * N / K)) (sym long) turns;
        }

-- what a transform of the first N cells asks
pub whole_tabled : (N : ℕ) (cells t : List ℕ) → PsiTable N cells → t ≡ drop (3 * N) cells → (s : List ℕ) → length s ≡ N → Symbols s → Tabled s t 2
whole_tabled N cells t table lent s long small =
    subst (Tabled s t) (mul-div_cancel 2 some) (tabled N N cells table table.N_power (le_of_eq refl) t lent s long small)
  where
    some : 0 < N
    some = omega (arith, size_N N cells table, pow_pos (level_of N))
