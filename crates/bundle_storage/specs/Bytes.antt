-- Numbers in bytes, most significant byte first (document 01, "The bundle").
use Rattle.std.specs.Prelude.{List, [], ◌∷◌, ◌++◌, ℕ, ◌+◌, ◌*◌, ◌/◌, ◌%◌, ◌<◌, length, get_or, take, drop}

-- each number of a list is a byte
abbrev pub Bytes : List ℕ → Type 0
Bytes s = (i : ℕ) → i < length s → get_or s i 0 < 256

-- a number in 2 bytes, and in 4
unfoldable pub two : ℕ → List ℕ
two x = x / 256 % 256 ∷ x % 256 ∷ []

unfoldable pub four : ℕ → List ℕ
four x = two (x / 65536) ++ two (x % 65536)

-- numbers in 2 bytes each
unfoldable pub in_bytes : List ℕ → List ℕ
in_bytes [] = []
in_bytes (x ∷ xs) = two x ++ in_bytes xs

-- the number in the 2 bytes from an index on, and in the 4
unfoldable pub two_at : List ℕ → ℕ → ℕ
two_at s at = 256 * get_or s at 0 + get_or s (at + 1) 0

unfoldable pub four_at : List ℕ → ℕ → ℕ
four_at s at = 65536 * two_at s at + two_at s (at + 2)

-- s with these bytes from an index on
unfoldable pub put : List ℕ → ℕ → List ℕ → List ℕ
put bytes at s = take at s ++ (bytes ++ drop (at + length bytes) s)
