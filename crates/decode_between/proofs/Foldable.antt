-- What the working space of division has: N is a multiple of K, each term of a fold lies in it, and so do the powers of ψ.
-- Assumes nothing.
use mathlib.Core.Path.{◌≡◌, refl, sym, ap, subst, ◌∙◌}
use mathlib.Core.Bool.{false}
use mathlib.Core.List.{List}
use Prim.Native.Nat.{ℕ, ◌+◌, ◌-◌, ◌*◌, ◌/◌, ◌^◌, ◌<◌, ◌≤◌}
use native.Mathlib.Nat.{mul-le-mul, div-eq_of_eq-mul_left, le_of_eq, le_trans}
use native.Mathlib.Omega.{arith}
use lib.ListN.{length, get_or, take, drop, length-drop}
use lib.Pow.{pow-add, pow_pos}
use lib.Seq.{get_or-take, get_or-drop, length-take-le}
use Rattle.field.specs.Field.{power}
use Rattle.limits.specs.Shape.{bad_shape}
use Rattle.field.specs.Size.{level_of, size_of}
use Rattle.field.specs.Symbol.{Symbols}
use Rattle.field.proofs.Ring.{power_lt, symbols_product}
use Rattle.limits.proofs.Shape.{size_le}
use Rattle.field.proofs.Sizes.{size_power, size_small, size_size, level_least}
use Rattle.lists.specs.Tab.{tab}
use Rattle.lists.proofs.Tab.{tab_at}
use Rattle.decode_between.specs.Between.{psi}
use Rattle.decode_between.specs.Foldable.{PsiTable, PsiPowers, Columns, Foldable}

module _ (N : ℕ) (cells : List ℕ) (table : PsiTable N cells) where
  pub size_N : N ≡ 2 ^ level_of N
  size_N = table.N_power ∙ size_power N

  pub N_small : N ≤ 65536
  N_small = size_small N N table.N_power

  pub power_at : (j : ℕ) → j < N → get_or cells (3 * N + j) 0 ≡ power (psi N) j
  power_at j l = sym (get_or-drop (3 * N) cells j 0) ∙ ap (λ (s : List ℕ). get_or s j 0) table.powers ∙ tab_at N _ j l

  -- it is still there where its part of the cells stays
  pub table_kept : (e : List ℕ) → length e ≡ length cells → drop (3 * N) e ≡ drop (3 * N) cells → PsiTable N e
  table_kept e same back =
      record { long = same ∙ table.long; N_power = table.N_power; N_root = table.N_root; powers = back ∙ table.powers }

  -- the powers, lent
  pub lent_powers : (powers : List ℕ) → powers ≡ drop (3 * N) cells → PsiPowers powers × (length powers ≡ N)
  lent_powers powers back = (
    record {
      size = long ∙ table.N_power ∙ ap size_of (sym long);
      root = rw long table.N_root;
      table = back ∙ table.powers ∙ ap (λ (n : ℕ). tab n (power (psi n))) (sym long);
    },
    long,
  )
    where
      long : length powers ≡ N
      long = ap length back ∙ length-drop (3 * N) cells ∙ omega (arith, table.long)

-- two sizes, one at most the other
module _ (N K : ℕ) (N_power : N ≡ size_of N) (K_power : K ≡ size_of K) (K_fits : K ≤ N) where
  some : 0 < K
  some = omega (arith, K_power, size_power K, pow_pos (level_of K))

  lower : level_of K ≤ level_of N
  lower = level_least K (level_of N) (le_trans K_fits (le_of_eq (N_power ∙ size_power N)))

  multiple : N ≡ N / K * K
  multiple = times ∙ sym (ap (◌* K) (div-eq_of_eq-mul_left some times))
    where
      times : N ≡ 2 ^ (level_of N - level_of K) * K
      times =
          N_power ∙ size_power N
          ∙ ap (2 ^◌) {x = level_of N} {y = level_of N - level_of K + level_of K} (omega (arith, lower))
          ∙ pow-add 2 (level_of N - level_of K) (level_of K)
          ∙ ap (2 ^ (level_of N - level_of K) *◌) (sym (K_power ∙ size_power K))

module _ (powers : List ℕ) (psi-powers : PsiPowers powers) where
  pub powers_small : length powers ≤ 65536
  powers_small = size_small (length powers) (length powers) psi-powers.size

  pub power_there : (j : ℕ) → j < length powers → get_or powers j 0 ≡ power (psi (length powers)) j
  power_there j l = ap (λ (s : List ℕ). get_or s j 0) psi-powers.table ∙ tab_at (length powers) _ j l

module _ (K : ℕ) (f powers : List ℕ) (columns : Columns K f powers) where
  f_size : length f ≡ size_of (length f)
  f_size = sym columns.long ∙ columns.table.size ∙ ap size_of columns.long

  -- row b, column i
  pub inside : (b i : ℕ) → b < length f / K → i < K → b * K + i < length f
  inside b i lb li =
      omega (arith, multiple (length f) K f_size columns.K_power columns.K_fits, mul-le-mul {n₂ = length f / K} {m₂ = K} lb (le_of_eq refl))

  pub column_power : (j : ℕ) → j < length f → get_or powers j 0 ≡ power (psi (length f)) j
  column_power j l =
      power_there powers columns.table j (omega (arith, columns.long)) ∙ ap (λ (n : ℕ). power (psi n) j) columns.long

  pub term_le : (j : ℕ) → j < length f → get_or f j 0 * get_or powers j 0 ≤ 4294967296
  term_le j l = symbols_product _ _ (columns.symbols j l) (rw (column_power j l) (power_lt (psi (length f)) j))

module _ (N K : ℕ) (cells : List ℕ) (room : Foldable N K cells) where
  pub size_K : K ≡ 2 ^ level_of K
  size_K = room.K_power ∙ size_power K

  pub K_some : 0 < K
  K_some = some N K room.table.N_power room.K_power room.K_fits

  pub levels : level_of K ≤ level_of N
  levels = lower N K room.table.N_power room.K_power room.K_fits

  pub rows : N ≡ N / K * K
  rows = multiple N K room.table.N_power room.K_power room.K_fits

  -- row b, column i
  pub cell_inside : (b i : ℕ) → b < N / K → i < K → b * K + i < N
  cell_inside b i lb li = omega (arith, rows, mul-le-mul {n₂ = N / K} {m₂ = K} lb (le_of_eq refl))

  coefficient_lt : (j : ℕ) → j < N → get_or cells j 0 < 65537
  coefficient_lt j l =
      rw (get_or-take N cells j 0 l) at (room.symbols j (omega (arith, length-take-le N cells (omega (arith, room.table.long)))))

  pub cell_term_le : (j : ℕ) → j < N → get_or cells j 0 * get_or cells (3 * N + j) 0 ≤ 4294967296
  cell_term_le j l = symbols_product _ _ (coefficient_lt j l) (rw (power_at N cells room.table j l) (power_lt (psi N) j))

  -- it is still that where the coefficients and the powers stay
  pub room_kept : (e : List ℕ) → length e ≡ length cells → take N e ≡ take N cells → drop (3 * N) e ≡ drop (3 * N) cells → Foldable N K e
  room_kept e same front back =
      record {
        table = table_kept N cells room.table e same back;
        K_power = room.K_power;
        K_fits = room.K_fits;
        symbols = subst Symbols (sym front) room.symbols;
      }

  -- the coefficients and the powers, lent
  pub lent_columns : (f powers : List ℕ) → f ≡ take N cells → powers ≡ drop (3 * N) cells → Columns K f powers × (length f ≡ N)
  lent_columns f powers front back = (
    record {
      table = (lent_powers N cells room.table powers back).0;
      long = (lent_powers N cells room.table powers back).1 ∙ sym long;
      K_power = room.K_power;
      K_fits = omega (arith, room.K_fits, long);
      symbols = subst Symbols (sym front) room.symbols;
    },
    long,
  )
    where
      long : length f ≡ N
      long = ap length front ∙ length-take-le N cells (omega (arith, room.table.long))

-- N and K of a block whose shape is good
pub room_of : (k n : ℕ) (cells : List ℕ) → bad_shape k n ≡ false → PsiTable (size_of n) cells → Symbols (take (size_of n) cells)
    → Foldable (size_of n) (size_of k) cells
room_of k n cells shape table small =
    record {
      table = table;
      K_power = size_size k;
      K_fits = size_le k n shape;
      symbols = small;
    }
