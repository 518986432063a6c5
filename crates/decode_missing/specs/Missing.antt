-- The points of the positions that are not held.
use Rattle.std.specs.Prelude.{cond, List, [], ◌∷◌, ℕ, zero, suc, eqb, get_or}
use Rattle.field.specs.Points.{point_of}

-- the points of the first b positions that have no mark, the last one first
unfoldable pub unmarked : ℕ → List ℕ → ℕ → List ℕ
unmarked N marks zero = []
unmarked N marks (suc b) = cond (eqb (get_or marks b 0) 0) (point_of N b ∷ unmarked N marks b) (unmarked N marks b)

-- the points of all missing positions
abbrev pub missing_points : ℕ → List ℕ → List ℕ
missing_points N marks = unmarked N marks N
