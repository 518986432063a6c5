-- f at the points between those of the code word, from N·f·M there, and back to its coefficients.
use Rattle.std.specs.Prelude.{List, ℕ, ◌+◌, ◌-◌, ◌*◌, ◌<◌, get_or, take, drop}
use Rattle.field.specs.Congruence.{◌≈◌}
use Rattle.field.specs.Field.{difference, product, power, inverse}
use Rattle.field.specs.Points.{root_of}
use Rattle.poly.specs.Products.{vanishing}
use Rattle.lists.specs.Tab.{tab}
use Rattle.poly.specs.Value.{value}
use Rattle.transform_halving.specs.Transform.{sums}
use Rattle.lists.specs.Part.{replaced}
use Rattle.decode_between.specs.Between.{psi, between, values_between}

-- 1 / (N·K·M(y_i)), for the K points y_i between those of the code word
pub record InversesBetween (N K : ℕ) (zs inverses : List ℕ) : Type 0 where
  pub at : (i : ℕ) → i < K → N * K * value (vanishing zs) (between N K i) * get_or inverses i 0 ≈ 1

-- the values of N·f·M at the points between, divided by N·K·M there
unfoldable pub quotients : ℕ → ℕ → List ℕ → List ℕ → List ℕ
quotients N K g inverses = tab K (λ i. product (get_or (values_between N K g) i 0) (get_or inverses i 0))

-- the cells once they stand where the values stood
abbrev pub with_quotients : ℕ → ℕ → List ℕ → List ℕ
with_quotients N K cells = replaced N K cells (tab K (λ i. product (get_or cells (N + i) 0) (get_or cells (2 * N + i) 0)))

-- a coefficient of f(ψ·X) divided by its power of ψ: 1/ψ^i is -ψ^(N - i)
unfoldable pub untwisted : ℕ → List ℕ → ℕ → ℕ
untwisted N s i = difference 0 (product (get_or s i 0) (power (psi N) (N - i)))

-- the k coefficients of f, from the N of N·f·M in front of the cells and the inverses from 2N on
abbrev pub quotient_in : ℕ → ℕ → ℕ → List ℕ → List ℕ
quotient_in k N K cells = tab k (untwisted N (sums (inverse (root_of K)) (quotients N K (take N cells) (drop (2 * N) cells))))
