-- One over N·K times each of K values: what divides by M at the points between, and by N and K on the way back.
use Rattle.std.specs.Prelude.{List, ℕ}
use Rattle.field.specs.Field.{product, inverse}
use Rattle.lists.specs.Tab.{tab}

abbrev pub inverses_of : ℕ → ℕ → (ℕ → ℕ) → List ℕ
inverses_of N K value = tab K (λ i. inverse (product (product N K) (value i)))
