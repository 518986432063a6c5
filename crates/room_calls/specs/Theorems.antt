-- What is proved of the definitions, as statements: proofs/Theorems.antt proves each under the same name in small letters.
use Rattle.std.specs.Prelude.{◌≡◌, not, List, [], ◌∷◌, ◌⊎◌, ℕ, ◌<◌, ◌≤◌, eqb, length, Result}
use Rattle.answers.specs.Leaves.{Leaves}
use Rattle.answers.specs.Refusals.{Answer, the_result, refusal, refused, refuse_if}
use Rattle.answers.specs.declared.refusal.Refusal.{Refusal}
use Rattle.answers.specs.declared.refusal.Refusal.TheVariants.{Length, Room}
use Rattle.transform.specs.Calls.{transform_leaves, inverse_leaves}
use Rattle.block.specs.Calls.{encode_leaves, decode_leaves}
use Rattle.bundle.specs.Calls.{write_leaves, read_leaves}
use Rattle.room_calls.specs.Rooms.{told_room, transform_room_answer, encode_room_answer, decode_room_answer, write_room_answer, read_room_answer}
use Rattle.room_calls.specs.declared.space.Space.{Space}

-- The room told is the room that the call asks for

-- call is what a call leaves of the output and the working space that it is lent, short what it answers where one of them is shorter than told
pub record AsksFor (told short : Answer) (call : List ℕ → List ℕ → Leaves) : Type 0 where
  -- with the room told, or more, it is not refused by ROOM
  pub room_enough : (o w : ℕ) → told ≡ the_result (o ∷ w ∷ []) → (out work : List ℕ) → o ≤ length out → w ≤ length work
      → ¬ ((call out work).answer ≡ refused Room)
  -- with less of either it is refused
  pub room_needed : (o w : ℕ) → told ≡ the_result (o ∷ w ∷ []) → (out work : List ℕ) → (length out < o) ⊎ (length work < w)
      → (call out work).answer ≡ short
  -- where no room is told, the call gives the same refusal, whatever it is lent
  pub room_refused : (number place : ℕ) → told ≡ refusal number place → (out work : List ℕ)
      → (call out work).answer ≡ refusal number place

-- "Checks run in the order of the numbers": lists of wrong length are answered LENGTH before the room is looked at
pub record RoomsTold : Type 0 where
  -- the list is no output: whatever is lent as one, none is asked for
  pub transform : (list : List ℕ) → AsksFor (transform_room_answer (length list)) (refused Room) (λ out. transform_leaves list)
  pub inverse : (list : List ℕ) → AsksFor (transform_room_answer (length list)) (refused Room) (λ out. inverse_leaves list)
  pub encode : (k n : ℕ) (message : List ℕ)
      → AsksFor (encode_room_answer k n) (refuse_if (not (eqb (length message) k)) Length (refused Room)) (encode_leaves k n message)
  pub decode : (k n : ℕ) (positions values : List ℕ)
      → AsksFor (decode_room_answer k n) (refuse_if (not (eqb (length positions) (length values))) Length (refused Room))
      (decode_leaves k n positions values)
  pub write : (k n : ℕ) (file : List ℕ) → AsksFor (write_room_answer k n (length file)) (refused Room) (write_leaves k n file)
  pub read : (bundle : List ℕ) → AsksFor (read_room_answer bundle) (refused Room) (read_leaves bundle)

-- Two answers of a call are equal

-- two answers that tell the same
abbrev pub RoomAnswerSettled : Answer → Type 0
RoomAnswerSettled told = (a b : Result Space Refusal) → told_room a ≡ told → told_room b ≡ told → a ≡ b

abbrev pub TransformRoomSettled : Type 0
TransformRoomSettled = (N : ℕ) → RoomAnswerSettled (transform_room_answer N)

abbrev pub EncodeRoomSettled : Type 0
EncodeRoomSettled = (k n : ℕ) → RoomAnswerSettled (encode_room_answer k n)

abbrev pub DecodeRoomSettled : Type 0
DecodeRoomSettled = (k n : ℕ) → RoomAnswerSettled (decode_room_answer k n)

abbrev pub WriteRoomSettled : Type 0
WriteRoomSettled = (k n L : ℕ) → RoomAnswerSettled (write_room_answer k n L)

abbrev pub ReadRoomSettled : Type 0
ReadRoomSettled = (bundle : List ℕ) → RoomAnswerSettled (read_room_answer bundle)
