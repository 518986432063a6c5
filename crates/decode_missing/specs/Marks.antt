-- Which positions of a code word are held, as decoding notes it: by a mark for each of the N positions, those between n and N among them.
use Rattle.std.specs.Prelude.{◌≡◌, List, ℕ, ◌*◌, ◌<◌, length, get_or}
use Rattle.lists.specs.Part.{part}

-- a mark for each of the N positions, which is not 0 exactly where the position is held
pub record Marks (N : ℕ) (positions marks : List ℕ) : Type 0 where
  pub long : length marks ≡ N
  pub held : (t : ℕ) → t < length positions → ¬ (get_or marks (get_or positions t 0) 0 ≡ 0)
  pub only : (j : ℕ) → j < N → ¬ (get_or marks j 0 ≡ 0) → (t : ℕ) × (t < length positions) × (get_or positions t 0 ≡ j)

-- where they stand while the missing points are looked for: in the third N of 4N cells
abbrev pub marks_at : ℕ → List ℕ → List ℕ
marks_at N cells = part (2 * N) N cells
