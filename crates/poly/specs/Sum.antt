-- A plain sum: f 0 + f 1 + .. + f (n - 1).
use Rattle.std.specs.Prelude.{ℕ, zero, suc, ◌+◌}

unfoldable pub total : ℕ → (ℕ → ℕ) → ℕ
total zero f = 0
total (suc n) f = f 0 + total n (λ i. f (suc i))
