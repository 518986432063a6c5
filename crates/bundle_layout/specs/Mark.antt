-- The mark: "the four bytes 46 4E 54 42".
use Rattle.std.specs.Prelude.{Bool, not, List, [], ◌∷◌, ℕ, leb, eqb, length, get_or}
use Rattle.answers.specs.First.{first}

unfoldable pub mark : List ℕ
mark = 0x46 ∷ 0x4E ∷ 0x54 ∷ 0x42 ∷ []

-- s begins with these bytes: none of them is another there
unfoldable pub starts_with : List ℕ → List ℕ → Bool
starts_with bytes s = leb (length bytes) (first (length bytes) (λ i. not (eqb (get_or s i 0) (get_or bytes i 0))))
