-- The working space of division, 4N cells: the coefficients in front, the powers of ψ behind, and room for the K values between them.
use Rattle.std.specs.Prelude.{◌≡◌, List, ℕ, ◌*◌, ◌<◌, ◌≤◌, length, take, drop}
use Rattle.field.specs.Field.{power}
use Rattle.field.specs.Size.{level_of, size_of}
use Rattle.field.specs.Symbol.{Symbols}
use Rattle.lists.specs.Tab.{tab}
use Rattle.decode_between.specs.Between.{psi}

-- the powers of ψ, and that there is a root of order 2N
pub record PsiTable (N : ℕ) (cells : List ℕ) : Type 0 where
  pub long : length cells ≡ 4 * N
  pub N_power : N ≡ size_of N
  pub N_root : level_of N < 16
  pub powers : drop (3 * N) cells ≡ tab N (power (psi N))

pub record Foldable (N K : ℕ) (cells : List ℕ) : Type 0 where
  pub table : PsiTable N cells
  pub K_power : K ≡ size_of K
  pub K_fits : K ≤ N
  pub symbols : Symbols (take N cells)

-- the powers of ψ as a list of their own
pub record PsiPowers (powers : List ℕ) : Type 0 where
  pub size : length powers ≡ size_of (length powers)
  pub root : level_of (length powers) < 16
  pub table : powers ≡ tab (length powers) (power (psi (length powers)))

-- and the coefficients
pub record Columns (K : ℕ) (coefficients powers : List ℕ) : Type 0 where
  pub table : PsiPowers powers
  pub long : length powers ≡ length coefficients
  pub K_power : K ≡ size_of K
  pub K_fits : K ≤ length coefficients
  pub symbols : Symbols coefficients
