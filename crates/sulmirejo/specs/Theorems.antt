-- What is proved of the definitions, as statements: proofs/Theorems.antt proves each under the same name in small letters.
use Rattle.std.specs.Prelude.{◌≡◌, List, ℕ}
use Rattle.answers.specs.Leaves.{Leaves}
use Rattle.answers.specs.Refusals.{Answer}
use Rattle.field_calls.specs.Points.{point_answer}
use Rattle.transform.specs.Calls.{transform_leaves, inverse_leaves}
use Rattle.block.specs.Calls.{encode_leaves, decode_leaves}
use Rattle.bundle_layout.specs.Facts.{facts_answer, entry_answer}
use Rattle.bundle.specs.Calls.{write_leaves, read_leaves}
use Rattle.room_calls.specs.Rooms.{transform_room_answer, encode_room_answer, decode_room_answer, write_room_answer, read_room_answer}
use Rattle.sulmirejo.specs.Face.{PointReturned, point_returned, ListsReturned, lists_returned, lists_returned_number, FactsReturned, facts_returned, EntryReturned, entry_returned, RoomReturned, room_returned}

-- Two outcomes of a call are equal: the status, the number, the point, every number written, every cell of the lent lists

abbrev pub PointSettled : Type 0
PointSettled =
    (n i before : ℕ) (r s : PointReturned) → r ≡ point_returned (point_answer n i) before
    → s ≡ point_returned (point_answer n i) before → r ≡ s

-- two outcomes of a call that leaves lists
abbrev pub ListsSettled : Leaves → Type 0
ListsSettled it = (r s : ListsReturned) → r ≡ lists_returned it → s ≡ lists_returned it → r ≡ s

abbrev pub TransformSettled : Type 0
TransformSettled = (list work : List ℕ) → ListsSettled (transform_leaves list work)

abbrev pub InverseSettled : Type 0
InverseSettled = (list work : List ℕ) → ListsSettled (inverse_leaves list work)

abbrev pub EncodeSettled : Type 0
EncodeSettled = (k n : ℕ) (message out work : List ℕ) → ListsSettled (encode_leaves k n message out work)

abbrev pub DecodeSettled : Type 0
DecodeSettled = (k n : ℕ) (positions values out work : List ℕ) → ListsSettled (decode_leaves k n positions values out work)

-- two outcomes of a call that leaves lists and tells a length
abbrev pub ListsNumberSettled : Leaves → Type 0
ListsNumberSettled it = (r s : ListsReturned) → r ≡ lists_returned_number it → s ≡ lists_returned_number it → r ≡ s

abbrev pub WriteSettled : Type 0
WriteSettled = (k n : ℕ) (file out work : List ℕ) → ListsNumberSettled (write_leaves k n file out work)

abbrev pub ReadSettled : Type 0
ReadSettled = (bundle out work : List ℕ) → ListsNumberSettled (read_leaves bundle out work)

abbrev pub FactsSettled : Type 0
FactsSettled =
    (bundle : List ℕ) (k n length held blocks : ℕ) (r s : FactsReturned)
    → r ≡ facts_returned (facts_answer bundle) k n length held blocks → s ≡ facts_returned (facts_answer bundle) k n length held blocks
    → r ≡ s

abbrev pub EntrySettled : Type 0
EntrySettled =
    (bundle : List ℕ) (index position offset count : ℕ) (r s : EntryReturned)
    → r ≡ entry_returned (entry_answer bundle index) position offset count
    → s ≡ entry_returned (entry_answer bundle index) position offset count → r ≡ s

-- two outcomes of a call that tells a room
abbrev pub RoomSettled : Answer → Type 0
RoomSettled a = (out work : ℕ) (r s : RoomReturned) → r ≡ room_returned a out work → s ≡ room_returned a out work → r ≡ s

abbrev pub TransformRoomSettled : Type 0
TransformRoomSettled = (N : ℕ) → RoomSettled (transform_room_answer N)

abbrev pub EncodeRoomSettled : Type 0
EncodeRoomSettled = (k n : ℕ) → RoomSettled (encode_room_answer k n)

abbrev pub DecodeRoomSettled : Type 0
DecodeRoomSettled = (k n : ℕ) → RoomSettled (decode_room_answer k n)

abbrev pub WriteRoomSettled : Type 0
WriteRoomSettled = (k n L : ℕ) → RoomSettled (write_room_answer k n L)

abbrev pub ReadRoomSettled : Type 0
ReadRoomSettled = (bundle : List ℕ) → RoomSettled (read_room_answer bundle)
