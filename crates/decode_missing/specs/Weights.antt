-- What the missing positions make of the held values: each is multiplied by M(x) at its point, M being the product of X - z over the missing
-- points z, and at these there is 0.
use Rattle.std.specs.Prelude.{◌≡◌, List, ℕ, ◌%◌, ◌<◌, length, get_or}
use Rattle.field.specs.Field.{product}
use Rattle.field.specs.Points.{point_of}
use Rattle.poly.specs.Products.{vanishing}
use Rattle.lists.specs.Tab.{tab}
use Rattle.poly.specs.Value.{value}
use Rattle.code.specs.Held.{Held, held_count}
use Rattle.decode_missing.specs.Missing.{missing_points}

-- M(x) at the N points
unfoldable pub weights : ℕ → List ℕ → List ℕ
weights N zs = tab N (λ j. value (vanishing zs) (point_of N j) % 65537)

-- the held values, each times M(x), at their positions, and 0 at the missing ones
pub record Weighted (N : ℕ) (marks : List ℕ) (h : Held) (list : List ℕ) : Type 0 where
  pub long : length list ≡ N
  pub at : (t : ℕ) → t < held_count h
      → get_or list (get_or h.positions t 0) 0 ≡ product (get_or h.values t 0) (get_or (weights N (missing_points N marks)) (get_or h.positions t 0) 0)
  pub none : (j : ℕ) → j < N → get_or marks j 0 ≡ 0 → get_or list j 0 ≡ 0
