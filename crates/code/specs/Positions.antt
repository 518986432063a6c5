-- POSITION: "some position is n or more; place: the first such list index".
use Rattle.std.specs.Prelude.{List, ℕ, ◌<◌, leb, length, get_or}
use Rattle.answers.specs.First.{first}

-- the first such index, the list's length where there is none
unfoldable pub first_outside : ℕ → List ℕ → ℕ
first_outside n positions = first (length positions) (λ i. leb n (get_or positions i 0))

-- each position is below n
abbrev pub Inside : ℕ → List ℕ → Type 0
Inside n positions = (i : ℕ) → i < length positions → get_or positions i 0 < n
