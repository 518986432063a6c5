-- A list by its entries: f 0, f 1, .., f (n - 1).
use Rattle.std.specs.Prelude.{List, [], ◌∷◌, ℕ, zero, suc}

unfoldable pub tab : ℕ → (ℕ → ℕ) → List ℕ
tab zero f = []
tab (suc n) f = f 0 ∷ tab n (λ i. f (suc i))
