-- The table of the seventeen roots (document 01, "The field and its roots"): the root of order 2 ^ i, for i = 0 to 16.
use Rattle.std.specs.Prelude.{◌≡◌, List, [], ◌∷◌, ℕ, ◌<◌, get_or}
use Rattle.field.specs.Field.{power}

unfoldable pub roots : List ℕ
roots =
    1
    ∷ 65536
    ∷ 65281
    ∷ 4096
    ∷ 64
    ∷ 65529
    ∷ 8224
    ∷ 13987
    ∷ 282
    ∷ 15028
    ∷ 19139
    ∷ 61869
    ∷ 54449
    ∷ 6561
    ∷ 81
    ∷ 9
    ∷ 3
    ∷ []

unfoldable pub root : ℕ → ℕ
root i = get_or roots i 0

-- the order of r: the least number above 0 whose power is 1
pub record HasOrder (r order : ℕ) : Type 0 where
  pub some : 0 < order
  pub full : power r order ≡ 1
  pub least : (d : ℕ) → 0 < d → d < order → ¬ (power r d ≡ 1)
