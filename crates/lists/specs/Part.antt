-- A part of a list, and the list with other numbers in that place.
use Rattle.std.specs.Prelude.{List, ◌++◌, ℕ, ◌+◌, take, drop}

-- the `size` numbers from `at` on
abbrev pub part : ℕ → ℕ → List ℕ → List ℕ
part at size cells = take size (drop at cells)

abbrev pub replaced : ℕ → ℕ → List ℕ → List ℕ → List ℕ
replaced at size cells new = take at cells ++ (new ++ drop (at + size) cells)
