-- The proofs of specs/Theorems.antt, each under its name there in small letters.
-- Assumes nothing.
use mathlib.Core.Path.{sym, ◌∙◌}
use Rattle.sulmirejo.specs.Theorems.{PointSettled, TransformSettled, InverseSettled, EncodeSettled, DecodeSettled, WriteSettled, ReadSettled, FactsSettled, EntrySettled, TransformRoomSettled, EncodeRoomSettled, DecodeRoomSettled, WriteRoomSettled, ReadRoomSettled}

pub point_settled : PointSettled
point_settled n i before r s p q = p ∙ sym q

pub transform_settled : TransformSettled
transform_settled list work r s p q = p ∙ sym q

pub inverse_settled : InverseSettled
inverse_settled list work r s p q = p ∙ sym q

pub encode_settled : EncodeSettled
encode_settled k n message out work r s p q = p ∙ sym q

pub decode_settled : DecodeSettled
decode_settled k n positions values out work r s p q = p ∙ sym q

pub write_settled : WriteSettled
write_settled k n file out work r s p q = p ∙ sym q

pub read_settled : ReadSettled
read_settled bundle out work r s p q = p ∙ sym q

pub facts_settled : FactsSettled
facts_settled bundle k n length held blocks r s p q = p ∙ sym q

pub entry_settled : EntrySettled
entry_settled bundle index position offset count r s p q = p ∙ sym q

pub transform_room_settled : TransformRoomSettled
transform_room_settled N out work r s p q = p ∙ sym q

pub encode_room_settled : EncodeRoomSettled
encode_room_settled k n out work r s p q = p ∙ sym q

pub decode_room_settled : DecodeRoomSettled
decode_room_settled k n out work r s p q = p ∙ sym q

pub write_room_settled : WriteRoomSettled
write_room_settled k n L out work r s p q = p ∙ sym q

pub read_room_settled : ReadRoomSettled
read_room_settled bundle out work r s p q = p ∙ sym q
