-- What a C caller finds: the returned status is 0 or the refusal's number, and `number` holds the refusal's place, else 0 or the length told.
use Rattle.std.specs.Prelude.{List, ℕ, get_or}
use Rattle.answers.specs.Leaves.{Leaves}
use Rattle.answers.specs.Refusals.{Answer, the_result, refusal}
use Rattle.answers.specs.Telling.{Returned, status_number, returned}

-- where the result is one number, `number` takes it
abbrev pub returned_number : Answer → Returned
returned_number (the_result vs) = status_number 0 (get_or vs 0 0)
returned_number (refusal n i) = status_number n i

-- a point: it is written on success alone
pub record PointReturned : Type 0 where
  pub status : ℕ
  pub number : ℕ
  pub point : ℕ

abbrev pub with_point : Returned → ℕ → PointReturned
with_point r point = record { status = r.status; number = r.number; point = point }

-- the answer told, and what stands in `point` where it held `before`
abbrev pub point_returned : Answer → ℕ → PointReturned
point_returned (the_result vs) before = with_point (returned (the_result vs)) (get_or vs 0 0)
point_returned (refusal n i) before = with_point (returned (refusal n i)) before

-- a call with a list that takes the result and a working space: what it leaves, with the answer told
pub record ListsReturned : Type 0 where
  pub status : ℕ
  pub number : ℕ
  pub list : List ℕ
  pub work : List ℕ

abbrev pub with_lists : Returned → List ℕ → List ℕ → ListsReturned
with_lists r list work = record { status = r.status; number = r.number; list = list; work = work }

abbrev pub lists_returned : Leaves → ListsReturned
lists_returned it = with_lists (returned it.answer) it.list it.work

-- the same where the result told is one number
abbrev pub lists_returned_number : Leaves → ListsReturned
lists_returned_number it = with_lists (returned_number it.answer) it.list it.work

-- what a bundle's header says: it is written on success alone
pub record FactsReturned : Type 0 where
  pub status : ℕ
  pub number : ℕ
  pub k : ℕ
  pub n : ℕ
  pub length : ℕ
  pub held : ℕ
  pub blocks : ℕ

abbrev pub with_facts : Returned → ℕ → ℕ → ℕ → ℕ → ℕ → FactsReturned
with_facts r k n length held blocks =
    record { status = r.status; number = r.number; k = k; n = n; length = length; held = held; blocks = blocks }

-- the answer told, and what stands in the five where they held k, n, length, held and blocks
abbrev pub facts_returned : Answer → ℕ → ℕ → ℕ → ℕ → ℕ → FactsReturned
facts_returned (the_result vs) k n length held blocks =
    with_facts (returned (the_result vs)) (get_or vs 0 0) (get_or vs 1 0) (get_or vs 2 0) (get_or vs 3 0) (get_or vs 4 0)
facts_returned (refusal m i) k n length held blocks = with_facts (returned (refusal m i)) k n length held blocks

-- what a bundle's table says of one shadow: it is written on success alone
pub record EntryReturned : Type 0 where
  pub status : ℕ
  pub number : ℕ
  pub position : ℕ
  pub offset : ℕ
  pub count : ℕ

abbrev pub with_entry : Returned → ℕ → ℕ → ℕ → EntryReturned
with_entry r position offset count =
    record { status = r.status; number = r.number; position = position; offset = offset; count = count }

-- the answer told, and what stands in the three where they held position, offset and count
abbrev pub entry_returned : Answer → ℕ → ℕ → ℕ → EntryReturned
entry_returned (the_result vs) position offset count = with_entry (returned (the_result vs)) (get_or vs 0 0) (get_or vs 1 0) (get_or vs 2 0)
entry_returned (refusal m i) position offset count = with_entry (returned (refusal m i)) position offset count

-- the room that a call asks for: it is written on success alone
pub record RoomReturned : Type 0 where
  pub status : ℕ
  pub number : ℕ
  pub out : ℕ
  pub work : ℕ

abbrev pub with_room : Returned → ℕ → ℕ → RoomReturned
with_room r out work = record { status = r.status; number = r.number; out = out; work = work }

-- the answer told, and what stands in the two where they held out and work
abbrev pub room_returned : Answer → ℕ → ℕ → RoomReturned
room_returned (the_result vs) out work = with_room (returned (the_result vs)) (get_or vs 0 0) (get_or vs 1 0)
room_returned (refusal m i) out work = with_room (returned (refusal m i)) out work
