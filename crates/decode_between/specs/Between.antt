-- Points between those of the code word: y_i = ψ·w^i, ψ being the root of order 2N and w the root of order K. There X^N is -1, so that no
-- product of X - z over points z of the code word is 0 there.
use Rattle.std.specs.Prelude.{List, ℕ, suc, ◌+◌, ◌*◌, ◌/◌, ◌%◌, ◌^◌, get_or}
use Rattle.field.specs.Field.{power}
use Rattle.field.specs.Points.{root_of}
use Rattle.field.specs.Roots.{root}
use Rattle.field.specs.Size.{level_of}
use Rattle.poly.specs.Sum.{total}
use Rattle.lists.specs.Tab.{tab}
use Rattle.poly.specs.Value.{value}

-- ψ, the root of order 2N
unfoldable pub psi : ℕ → ℕ
psi N = root (suc (level_of N))

-- y_i
unfoldable pub between : ℕ → ℕ → ℕ → ℕ
between N K i = psi N * root_of K ^ i

-- the values of a polynomial at y_0 to y_(K-1)
unfoldable pub values_between : ℕ → ℕ → List ℕ → List ℕ
values_between N K f = tab K (λ i. value f (between N K i) % 65537)

-- N coefficients folded to K: coefficient i times ψ^i, and those added up whose indices are the same modulo K
abbrev pub folded_at : ℕ → ℕ → List ℕ → ℕ → ℕ
folded_at N K f i = total (N / K) (λ b. get_or f (b * K + i) 0 * power (psi N) (b * K + i)) % 65537

unfoldable pub folded : ℕ → ℕ → List ℕ → List ℕ
folded N K f = tab K (folded_at N K f)
