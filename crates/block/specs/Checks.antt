-- The checks of encode, and those of decode before DISAGREE, in the order of the numbers, each over the whole list before the next.
use Rattle.std.specs.Prelude.{◌||◌, not, List, [], ℕ, ltb, eqb, length}
use Rattle.answers.specs.Refusals.{Answer, the_result, refuse_if}
use Rattle.limits.specs.Shape.{bad_shape}
use Rattle.limits.specs.Values.{refuse_above}
use Rattle.answers.specs.declared.refusal.Refusal.TheVariants.{Shape, Length, Room, Few, Position, Repeat}
use Rattle.code.specs.Held.{held, held_count}
use Rattle.code.specs.Positions.{first_outside}
use Rattle.code.specs.Repeats.{first_repeat}
use Rattle.code.specs.Rooms.{encode_work, decode_work}

-- out and work are the lengths of the output and of the working space

unfoldable pub encode_checks : ℕ → ℕ → List ℕ → ℕ → ℕ → Answer
encode_checks k n message out work =
    refuse_if (bad_shape k n) Shape
    (refuse_if (not (eqb (length message) k)) Length
    (refuse_if (ltb out n || ltb work (encode_work n)) Room (refuse_above message (the_result []))))

unfoldable pub decode_checks : ℕ → ℕ → List ℕ → List ℕ → ℕ → ℕ → Answer
decode_checks k n positions values out work =
    refuse_if (bad_shape k n) Shape
    (refuse_if (not (eqb (length positions) (length values))) Length
    (refuse_if (ltb out k || ltb work (decode_work n)) Room
    (refuse_if (ltb (held_count (held positions values)) k) Few
    (refuse_if (ltb (first_outside n positions) (length positions)) (Position (first_outside n positions))
    (refuse_if (ltb (first_repeat positions) (length positions)) (Repeat (first_repeat positions))
    (refuse_above values (the_result [])))))))
