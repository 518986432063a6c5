-- REPEAT: "a position stands earlier in the list; place: the first such index".
use Rattle.std.specs.Prelude.{◌≡◌, Bool, List, ℕ, ◌<◌, ltb, eqb, length, get_or}
use Rattle.answers.specs.First.{first}

-- the position at index i stands at an earlier index too
unfoldable pub stands_earlier : List ℕ → ℕ → Bool
stands_earlier positions i = ltb (first i (λ j. eqb (get_or positions j 0) (get_or positions i 0))) i

-- the first such index, the list's length where there is none
unfoldable pub first_repeat : List ℕ → ℕ
first_repeat positions = first (length positions) (stands_earlier positions)

-- no position stands twice
abbrev pub Apart : List ℕ → Type 0
Apart positions = (i j : ℕ) → i < j → j < length positions → ¬ (get_or positions i 0 ≡ get_or positions j 0)
