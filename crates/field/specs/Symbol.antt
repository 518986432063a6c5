-- A symbol is a whole number from 0 to 65536.
use Rattle.std.specs.Prelude.{◌≡◌, List, ℕ, ◌<◌, length, get_or}

-- r is the value v, and a symbol
pub record IsSymbol (r v : ℕ) : Type 0 where
  pub is : r ≡ v
  pub small : r < 65537

-- each number of a list is a symbol
abbrev pub Symbols : List ℕ → Type 0
Symbols s = (i : ℕ) → i < length s → get_or s i 0 < 65537
