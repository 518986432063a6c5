-- Text as it is printed: characters as bytes, and a number in decimal digits.
use Rattle.std.specs.Prelude.{List, [], ◌∷◌, ℕ, suc, ◌^◌, ltb}
use Prim.Native.Char.{code}
use Prim.Native.String as S
use Rattle.answers.specs.First.{first}
use Rattle.io.specs.Digits.{last_digits}

-- the characters' numbers
abbrev pub ascii : S.String → List ℕ
ascii S.[] = []
ascii (S.◌∷◌ c s) = code c ∷ ascii s

-- how many digits n has: one more than the first i for which n is below 10 to the power i + 1. A number of the machine has at most 20.
unfoldable pub places : ℕ → ℕ
places n = suc (first 19 (λ i. ltb n (10 ^ suc i)))

-- its digits, the most significant first
unfoldable pub decimal : ℕ → List ℕ
decimal n = last_digits 10 (places n) n
