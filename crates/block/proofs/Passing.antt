-- What the checks of encode and decode let through, both ways: a call that they pass can be worked on, and one that can be passes them.
-- Assumes nothing.
use mathlib.Core.Path.{◌≡◌, refl, sym}
use mathlib.Core.Bool.{false, not, ◌||◌}
use mathlib.Core.List.{List, []}
use Prim.Native.Nat.{ℕ, ◌≤◌}
use native.Mathlib.Nat.{le_of_eq}
use borrow.Author.Tests.{ltb-false, eqb-true, not-false, le-ltb, eq-eqb}
use lib.Dec.{ltb, leb, eqb}
use lib.ListN.{length}
use Rattle.answers.specs.Refusals.{the_result}
use Rattle.std.specs.List.{position}
use Rattle.std.specs.Prelude.{None}
use Rattle.limits.specs.Shape.{bad_shape, longest}
use Rattle.limits.specs.Values.{first_above}
use Rattle.answers.specs.declared.refusal.Refusal.TheVariants.{Shape, Length, Room, Few, Position, Repeat, Value}
use Rattle.answers.proofs.Checks.{passed, or_false, in_order}
use Rattle.limits.proofs.Shape.{shape_good}
use Rattle.limits.proofs.Values.{all_symbols, none_above}
use Rattle.block.specs.Checks.{encode_checks, decode_checks}
use Rattle.code.specs.Held.{held}
use Rattle.code.specs.Positions.{Inside, first_outside}
use Rattle.code.specs.Codable.{Codable}
use Rattle.code.specs.Decodable.{Decodable}
use Rattle.code.specs.Repeats.{first_repeat}
use Rattle.code.specs.Rooms.{encode_work, decode_work}
use Rattle.code_positions.proofs.Outside.{outside_none, none_outside, outside_stops, outside_goes_on, none_outside_below}
use Rattle.code_positions.proofs.Repeating.{repeat_none, none_repeat}

pub encode_passed : (k n : ℕ) (message : List ℕ) (out work : ℕ) → encode_checks k n message out work ≡ the_result []
    → Codable n message × (length message ≡ k) × (n ≤ out) × (encode_work n ≤ work)
unfolding encode_checks
encode_passed k n message out work e =
    let shape = passed (bad_shape k n) Shape _ [] e in
    let long = passed (not (eqb (length message) k)) Length _ [] shape.1 in
    let room = passed (ltb out n || ltb work (encode_work n)) Room _ [] long.1 in
    let above = passed (ltb (first_above message) (length message)) (Value (first_above message)) (the_result []) [] room.1 in
    let enough = or_false (ltb out n) (ltb work (encode_work n)) room.0 in
    let is = eqb-true (length message) k (not-false _ long.0) in (
      record { shape = rw is shape.0; symbols = all_symbols message refl (ltb-false _ _ above.0) },
      is,
      ltb-false out n enough.0,
      ltb-false work (encode_work n) enough.1,
    )

pub encode_passes : (k n : ℕ) (message : List ℕ) (out work : ℕ) → Codable n message → length message ≡ k → n ≤ out
    → encode_work n ≤ work → encode_checks k n message out work ≡ the_result []
unfolding encode_checks
encode_passes k n message out work good is enough room =
    simp (
      ← is,
      good.shape,
      eq-eqb (length message) (length message) refl,
      le-ltb out n enough,
      le-ltb work (encode_work n) room,
      le-ltb (first_above message) (length message) (le_of_eq (sym (none_above message good.symbols))),
    )

pub decode_passed : (k n : ℕ) (positions values : List ℕ) (out work : ℕ) → decode_checks k n positions values out work ≡ the_result []
    → Decodable k n (held positions values) × (k ≤ out) × (decode_work n ≤ work)
unfolding decode_checks held
decode_passed k n positions values out work e =
    let shape = passed (bad_shape k n) Shape _ [] e in
    let paired = passed (not (eqb (length positions) (length values))) Length _ [] shape.1 in
    let room = passed (ltb out k || ltb work (decode_work n)) Room _ [] paired.1 in
    let few = passed (ltb (length positions) k) Few _ [] room.1 in
    let outside = passed (ltb (first_outside n positions) (length positions)) (Position (first_outside n positions)) _ [] few.1 in
    let repeat = passed (ltb (first_repeat positions) (length positions)) (Repeat (first_repeat positions)) _ [] outside.1 in
    let above = passed (ltb (first_above values) (length values)) (Value (first_above values)) (the_result []) [] repeat.1 in
    let enough = or_false (ltb out k) (ltb work (decode_work n)) room.0 in (
      record {
        shape = shape.0;
        paired = eqb-true _ _ (not-false _ paired.0);
        enough = ltb-false _ _ few.0;
        inside = outside_none n positions (ltb-false _ _ outside.0);
        apart = repeat_none positions (ltb-false _ _ repeat.0);
        symbols = all_symbols values refl (ltb-false _ _ above.0);
      },
      ltb-false out k enough.0,
      ltb-false work (decode_work n) enough.1,
    )

pub decode_passes : (k n : ℕ) (positions values : List ℕ) (out work : ℕ) → Decodable k n (held positions values) → k ≤ out
    → decode_work n ≤ work → decode_checks k n positions values out work ≡ the_result []
unfolding decode_checks held
decode_passes k n positions values out work able enough room =
    simp (
      able.shape,
      eq-eqb (length positions) (length values) able.paired,
      le-ltb out k enough,
      le-ltb work (decode_work n) room,
      le-ltb (length positions) k able.enough,
      le-ltb (first_outside n positions) (length positions) (le_of_eq (sym (none_outside n positions able.inside))),
      le-ltb (first_repeat positions) (length positions) (le_of_eq (sym (none_repeat positions able.apart))),
      le-ltb (first_above values) (length values) (le_of_eq (sym (none_above values able.symbols))),
    )

-- REPEAT is looked for where SHAPE and POSITION have passed
pub inside_longest : (k n : ℕ) (positions : List ℕ) → bad_shape k n ≡ false → None ≡ position (leb n) positions → Inside longest positions
inside_longest k n positions shape none = none_outside_below n longest positions none (shape_good k n shape).2

-- what decode's checks are proved by
pub ruleset positions_in_order = (in_order, outside_stops, outside_goes_on, inside_longest)
