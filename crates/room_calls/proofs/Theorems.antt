-- The proofs of specs/Theorems.antt, each under its name there in small letters.
-- Assumes nothing.
use mathlib.Core.Path.{sym, ◌∙◌}
use mathlib.Core.Bool.{true, false}
use Rattle.room_calls.specs.Theorems.{RoomsTold, TransformRoomSettled, EncodeRoomSettled, DecodeRoomSettled, WriteRoomSettled, ReadRoomSettled}
use Rattle.room_calls.proofs.Asking.{transform_asks, encode_asks, decode_asks, write_asks, read_asks}
use Rattle.room_calls.proofs.Settling.{told_room_one}

pub rooms_told : RoomsTold
rooms_told =
    record {
      transform = transform_asks false;
      inverse = transform_asks true;
      encode = encode_asks;
      decode = decode_asks;
      write = write_asks;
      read = read_asks;
    }

pub transform_room_settled : TransformRoomSettled
transform_room_settled N a b p q = told_room_one a b (p ∙ sym q)

pub encode_room_settled : EncodeRoomSettled
encode_room_settled k n a b p q = told_room_one a b (p ∙ sym q)

pub decode_room_settled : DecodeRoomSettled
decode_room_settled k n a b p q = told_room_one a b (p ∙ sym q)

pub write_room_settled : WriteRoomSettled
write_room_settled k n L a b p q = told_room_one a b (p ∙ sym q)

pub read_room_settled : ReadRoomSettled
read_room_settled bundle a b p q = told_room_one a b (p ∙ sym q)
