-- What is told of a call's room: "Room needed, working space counted in numbers", the output's first, or the refusal that the call gives for the
-- same sizes or the same bundle, whatever it is lent.
use Rattle.std.specs.Prelude.{List, [], ◌∷◌, ℕ, Result}
use Rattle.answers.specs.Refusals.{Answer, the_result, refuse_if, after, told}
use Rattle.limits.specs.Shape.{bad_shape}
use Rattle.answers.specs.declared.refusal.Refusal.{Refusal}
use Rattle.answers.specs.declared.refusal.Refusal.TheVariants.{Shape}
use Rattle.transform.specs.Lengths.{bad_length}
use Rattle.code.specs.Rooms.{encode_work, decode_work}
use Rattle.bundle_layout.specs.Blocks.{blocks_of}
use Rattle.bundle_layout.specs.Shape.{bad_bundle_shape}
use Rattle.bundle_layout.specs.Fields.{n_in, length_in}
use Rattle.bundle_layout.specs.Layout.{layout_checks}
use Rattle.bundle_layout.specs.Rooms.{write_out, bundle_work}
use Rattle.room_calls.specs.declared.space.Space.{Space}

-- "transform, working space N, where N is the length of the one list that it reads and writes": no output beside it
unfoldable pub transform_room_answer : ℕ → Answer
transform_room_answer N = refuse_if (bad_length N) Shape (the_result (0 ∷ N ∷ []))

-- "encode, output n, working space 2N"
unfoldable pub encode_room_answer : ℕ → ℕ → Answer
encode_room_answer k n = refuse_if (bad_shape k n) Shape (the_result (n ∷ encode_work n ∷ []))

-- "decode, output k, working space 4N"
unfoldable pub decode_room_answer : ℕ → ℕ → Answer
decode_room_answer k n = refuse_if (bad_shape k n) Shape (the_result (k ∷ decode_work n ∷ []))

-- "bundle writer, 16 + 8n + 4nB bytes, however few the bundle takes, working space 8N"; L is the file's length
unfoldable pub write_room_answer : ℕ → ℕ → ℕ → Answer
write_room_answer k n L = refuse_if (bad_bundle_shape k n L) Shape (the_result (write_out n (blocks_of k L) ∷ bundle_work n ∷ []))

-- "bundle reader, L bytes, working space 8N"
unfoldable pub read_room_answer : List ℕ → Answer
read_room_answer s = after (layout_checks s) (the_result (length_in s ∷ bundle_work (n_in s) ∷ []))

-- the answer of the code, on paper: how long the output, then how long the working space has to be
abbrev pub told_room : Result Space Refusal → Answer
told_room = told (λ s. s.out ∷ s.work ∷ [])
