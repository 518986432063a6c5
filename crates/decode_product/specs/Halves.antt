-- What the functions of this crate ask of lent cells, and where in them two lists stand that are to be multiplied.
use Rattle.std.specs.Prelude.{◌≡◌, List, ℕ, ◌/◌, ◌≤◌, length, take}
use Rattle.lists.specs.Part.{part}
use Rattle.field.specs.Size.{size_of}
use Rattle.field.specs.Symbol.{Symbols}

-- a power of two of cells, with symbols in the front half
abbrev pub SymbolsInFront : List ℕ → Type 0
SymbolsInFront d = (length d ≡ size_of (length d)) × (2 ≤ length d) × Symbols (take (length d / 2) d)

-- the lists at the front of each half
abbrev pub first_factor : List ℕ → List ℕ
first_factor d = take (length d / 4) d

abbrev pub second_factor : List ℕ → List ℕ
second_factor d = part (length d / 2) (length d / 4) d

pub record TwoFactors (d : List ℕ) : Type 0 where
  pub size : length d ≡ size_of (length d)
  pub many : 4 ≤ length d
  pub first : Symbols (first_factor d)
  pub second : Symbols (second_factor d)

-- two lists of symbols of one length, few enough that the sum of their products fits
pub record ShortLists (a b : List ℕ) : Type 0 where
  pub long : length b ≡ length a
  pub short : length a ≤ 16384
  pub first : Symbols a
  pub second : Symbols b
