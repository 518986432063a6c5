-- What a caller of the transform and of its inverse is answered, and what the two lent lists hold afterwards.
use Rattle.std.specs.Prelude.{Bool, true, false, List, [], ℕ, ltb, length}
use Rattle.answers.specs.Leaves.{Leaves, leaving, unless_refused, zeroed}
use Rattle.answers.specs.Refusals.{Answer, the_result, refuse_if}
use Rattle.limits.specs.Values.{refuse_above}
use Rattle.answers.specs.declared.refusal.Refusal.TheVariants.{Shape, Room}
use Rattle.transform.specs.Lengths.{bad_length}
use Rattle.transform_halving.specs.Transform.{transform_of, inverse_of}

-- the checks, in the order of the numbers: SHAPE, ROOM, VALUE
unfoldable pub transform_checks : List ℕ → ℕ → Answer
transform_checks list room =
    refuse_if (bad_length (length list)) Shape (refuse_if (ltb room (length list)) Room (refuse_above list (the_result [])))

-- the transform, or back by the inverse
abbrev pub one_of : Bool → List ℕ → List ℕ
one_of false = transform_of
one_of true = inverse_of

-- what either call leaves of the list and the working space that it is lent
abbrev pub call_leaves : Bool → List ℕ → List ℕ → Leaves
call_leaves back list work =
    unless_refused (transform_checks list (length work)) list work
    (leaving (the_result []) (one_of back list) (zeroed (length list) work))

abbrev pub transform_leaves : List ℕ → List ℕ → Leaves
transform_leaves = call_leaves false

abbrev pub inverse_leaves : List ℕ → List ℕ → Leaves
inverse_leaves = call_leaves true
