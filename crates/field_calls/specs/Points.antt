-- What the point that a position stands for is answered with, by n and i.
use Rattle.std.specs.Prelude.{[], ◌∷◌, ℕ, leb, Result}
use Rattle.field.specs.Points.{point_of}
use Rattle.field.specs.declared.points.Point.{Point}
use Rattle.answers.specs.Refusals.{Answer, the_result, refuse_if, told}
use Rattle.limits.specs.Shape.{bad_shape}
use Rattle.field.specs.Size.{size_of}
use Rattle.answers.specs.declared.refusal.Refusal.{Refusal}
use Rattle.answers.specs.declared.refusal.Refusal.TheVariants.{Shape, Position}

-- an answer of the code, on paper
abbrev pub told_point : Result Point Refusal → Answer
told_point = told (λ x. x.0 ∷ [])

-- "refused by SHAPE and POSITION as decode refuses with k = 1 and i as its one position"
unfoldable pub point_answer : ℕ → ℕ → Answer
point_answer n i = refuse_if (bad_shape 1 n) Shape (refuse_if (leb n i) (Position 0) (the_result (point_of (size_of n) i ∷ [])))
