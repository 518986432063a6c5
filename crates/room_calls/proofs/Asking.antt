-- The room told is the room that a call asks for: one law over the order of a call's checks, and the checks of each call in that order.
-- Assumes nothing.
use mathlib.Core.Path.{◌≡◌, refl, sym, ap, ◌∙◌}
use mathlib.Core.Bool.{Bool, true, false, not, ◌||◌}
use mathlib.Core.List.{List, [], ◌∷◌}
use mathlib.Core.Logic.{◌⊎◌, inl, inr}
use mathlib.Core.Option.{Option, some, none}
use Prim.Native.Nat.{ℕ, zero, suc, ◌<◌, ◌≤◌, zero-le}
use borrow.Author.Tests.{lt-ltb, le-ltb, eqb-false}
use lib.Dec.{ltb, eqb}
use lib.ListN.{length}
use Rattle.answers.specs.Leaves.{Leaves, unless_refused}
use Rattle.answers.specs.Refusals.{Answer, the_result, refusal, refused, refuse_if, number_of, after}
use Rattle.limits.specs.Shape.{bad_shape}
use Rattle.limits.specs.Values.{first_above, refuse_above}
use Rattle.answers.specs.declared.refusal.Refusal.{Refusal}
use Rattle.answers.specs.declared.refusal.Refusal.TheVariants.{Shape, Length, Room, Few, Position, Repeat, Value, Disagree, Word, Tail}
use Rattle.answers.proofs.Refusals.{result_no_refusal}
use Rattle.transform.specs.Calls.{transform_checks, call_leaves}
use Rattle.transform.specs.Lengths.{bad_length}
use Rattle.code.specs.Decoded.{decoded}
use Rattle.code.specs.Decoding.{decode_of}
use Rattle.code.specs.Held.{held, held_count}
use Rattle.code.specs.Positions.{first_outside}
use Rattle.code.specs.Repeats.{first_repeat}
use Rattle.code.specs.Rooms.{encode_work, decode_work}
use Rattle.block.specs.Calls.{encode_leaves, decode_leaves}
use Rattle.block.specs.Checks.{encode_checks, decode_checks}
use Rattle.bundle_layout.specs.Blocks.{blocks_of}
use Rattle.bundle_layout.specs.Shape.{bad_bundle_shape}
use Rattle.bundle_layout.specs.Fields.{k_in, n_in, length_in, held_in, blocks_in}
use Rattle.bundle_layout.specs.Layout.{layout_checks}
use Rattle.bundle_layout.specs.Rooms.{write_out, bundle_work}
use Rattle.bundle_read.specs.Reading.{bad_word, bad_tail, block_answer, blocks_answer, decoded_at}
use Rattle.bundle_read.specs.Reading as Reading
use Rattle.bundle.specs.Calls.{write_leaves, read_leaves}
use Rattle.bundle.specs.Checks.{write_checks, room_checks, read_checks}
use Rattle.bundle.proofs.Walking.{read_answer}
use Rattle.room_calls.specs.Rooms.{transform_room_answer, encode_room_answer, decode_room_answer, write_room_answer, read_room_answer}
use Rattle.room_calls.specs.Theorems.{AsksFor}

-- Answers that are not ROOM

abbrev NoRoom : Answer → Type 0
NoRoom a = ¬ (a ≡ refused Room)

other_number : (x : Refusal) → eqb (number_of x) 3 ≡ false → NoRoom (refused x)
other_number x other e = eqb-false (number_of x) 3 other (cc)

other_if : (bad : Bool) (x : Refusal) {later : Answer} → eqb (number_of x) 3 ≡ false → NoRoom later → NoRoom (refuse_if bad x later)
other_if true x other rest = other_number x other
other_if false x other rest = rest

other_after : (a : Answer) {later : Answer} → NoRoom a → NoRoom later → NoRoom (after a later)
other_after (refusal number place) here rest = here
other_after (the_result vs) here rest = rest

-- Checks one after the other

check : (bad : Bool) (x : Refusal) (later : Answer) → refuse_if bad x later ≡ after (refuse_if bad x (the_result [])) later
check true x later = refl
check false x later = refl

unless : (a : Answer) (list work : List ℕ) (it : Leaves) → (unless_refused a list work it).answer ≡ after a it.answer
unless (refusal number place) list work it = refl
unless (the_result vs) list work it = refl

after_refusal : (a later : Answer) (number place : ℕ) → after (after a (refusal number place)) later ≡ after a (refusal number place)
after_refusal (refusal m i) later number place = refl
after_refusal (the_result vs) later number place = refl

-- first is what the checks of the sizes say, vs the room stated

sizes_refused : (first : Answer) (vs : List ℕ) {number place : ℕ} → after first (the_result vs) ≡ refusal number place → (later : Answer)
    → after first later ≡ refusal number place
sizes_refused (refusal m i) vs e later = e
sizes_refused (the_result us) vs e later = absurd (result_no_refusal e)

sizes_passed : (first : Answer) (vs : List ℕ) {us : List ℕ} → after first (the_result vs) ≡ the_result us → (later : Answer) → after first later ≡ later
sizes_passed (refusal m i) vs e later = absurd (result_no_refusal (sym e))
sizes_passed (the_result ws) vs e later = refl

room_same : (first : Answer) (o w : ℕ) {p v : ℕ} → after first (the_result (o ∷ w ∷ [])) ≡ the_result (p ∷ v ∷ []) → (o ≡ p) × (w ≡ v)
room_same (refusal m i) o w e = absurd (result_no_refusal (sym e))
room_same (the_result ws) o w e = (cc, cc)

-- The comparison with the room

or_true : (a : Bool) {b : Bool} → b ≡ true → a || b ≡ true
or_true true e = refl
or_true false e = e

scarce : (a o b w : ℕ) → (a < o) ⊎ (b < w) → ltb a o || ltb b w ≡ true
scarce a o b w (inl h) = ap (◌|| ltb b w) (lt-ltb a o h)
scarce a o b w (inr h) = or_true (ltb a o) (lt-ltb b w h)

ample : (a o b w : ℕ) → o ≤ a → w ≤ b → ltb a o || ltb b w ≡ false
ample a o b w enough room = rw (le-ltb a o enough, le-ltb b w room)

-- The law: first are the checks of the sizes, then come those of lengths, then ROOM, the others, and what the work answers

module _ (first lengths others : Answer) (o w : ℕ) (told short : Answer) (checks : ℕ → ℕ → Answer) (later : List ℕ → List ℕ → Answer)
    (call : List ℕ → List ℕ → Leaves) (is_told : told ≡ after first (the_result (o ∷ w ∷ []))) (is_short : short ≡ after lengths (refused Room))
    (is_checks : (out work : ℕ) → checks out work ≡ after first (after lengths (refuse_if (ltb out o || ltb work w) Room others)))
    (is_call : (out work : List ℕ) → (call out work).answer ≡ after (checks (length out) (length work)) (later out work))
    (no_length : NoRoom lengths) (no_other : NoRoom others) (no_later : (out work : List ℕ) → NoRoom (later out work)) where
  -- what the call answers, the comparison with the room being b
  answered : (out work : List ℕ) (b : Bool) → ltb (length out) o || ltb (length work) w ≡ b
      → (call out work).answer ≡ after (after first (after lengths (refuse_if b Room others))) (later out work)
  answered out work b e =
      is_call out work
      ∙ ap (λ (a : Answer). after a (later out work))
      (is_checks (length out) (length work) ∙ ap (λ (b : Bool). after first (after lengths (refuse_if b Room others))) e)

  -- and where the sizes passed
  passed : (out work : List ℕ) (b : Bool) {us : List ℕ} → told ≡ the_result us → ltb (length out) o || ltb (length work) w ≡ b
      → (call out work).answer ≡ after (after lengths (refuse_if b Room others)) (later out work)
  passed out work b e compared =
      answered out work b compared
      ∙ ap (λ (a : Answer). after a (later out work)) (sizes_passed first (o ∷ w ∷ []) (sym is_told ∙ e) (after lengths (refuse_if b Room others)))

  asks_for : AsksFor told short call
  asks_for =
      record {
        room_enough = λ p v e out work enough room is.
            let same = room_same first o w (sym is_told ∙ e) in
            other_after (after lengths others) (other_after lengths no_length no_other) (no_later out work)
            (sym (passed out work false e (ample (length out) o (length work) w (rw same.0 enough) (rw same.1 room))) ∙ is);
        room_needed = λ p v e out work less.
            let same = room_same first o w (sym is_told ∙ e) in
            passed out work true e (scarce (length out) o (length work) w (rw (same.0, same.1) less))
            ∙ after_refusal lengths (later out work) 3 0 ∙ sym is_short;
        room_refused = λ number place e out work.
            answered out work (ltb (length out) o || ltb (length work) w) refl
            ∙ ap (λ (a : Answer). after a (later out work))
            (sizes_refused first (o ∷ w ∷ []) (sym is_told ∙ e) (after lengths (refuse_if (ltb (length out) o || ltb (length work) w) Room others)));
      }

-- The transform and its inverse

module _ (back : Bool) (list : List ℕ) where
  pub transform_asks : AsksFor (transform_room_answer (length list)) (refused Room) (λ out. call_leaves back list)
  unfolding transform_room_answer transform_checks
  transform_asks =
      asks_for (refuse_if (bad_length (length list)) Shape (the_result [])) (the_result []) (refuse_above list (the_result [])) 0 (length list) _ _
      (λ out work. transform_checks list work) (λ out work. the_result []) _ (check (bad_length (length list)) Shape _) refl
      (λ out work. rw (le-ltb out 0 zero-le) (check (bad_length (length list)) Shape _))
      (λ out work. unless (transform_checks list (length work)) list work _)
      result_no_refusal
      (other_if (ltb (first_above list) (length list)) (Value (first_above list)) refl result_no_refusal)
      (λ out work. result_no_refusal)

-- Encode and decode

-- SHAPE and LENGTH
two_checks : (bad unequal : Bool) (later : Answer)
    → refuse_if bad Shape (refuse_if unequal Length later)
    ≡ after (refuse_if bad Shape (the_result [])) (after (refuse_if unequal Length (the_result [])) later)
two_checks bad unequal later =
    check bad Shape _ ∙ ap (after (refuse_if bad Shape (the_result []))) (check unequal Length later)

no_length : (unequal : Bool) → NoRoom (refuse_if unequal Length (the_result []))
no_length unequal = other_if unequal Length refl result_no_refusal

pub encode_asks : (k n : ℕ) (message : List ℕ)
    → AsksFor (encode_room_answer k n) (refuse_if (not (eqb (length message) k)) Length (refused Room)) (encode_leaves k n message)
unfolding encode_room_answer encode_checks
encode_asks k n message =
    let bad = bad_shape k n in
    let unequal = not (eqb (length message) k) in
    asks_for (refuse_if bad Shape (the_result [])) (refuse_if unequal Length (the_result [])) (refuse_above message (the_result [])) n (encode_work n) _ _
    (encode_checks k n message) (λ out work. the_result []) _ (check bad Shape _) (check unequal Length _) (λ out work. two_checks bad unequal _)
    (λ out work. unless (encode_checks k n message (length out) (length work)) out work _) (no_length unequal)
    (other_if (ltb (first_above message) (length message)) (Value (first_above message)) refl result_no_refusal)
    (λ out work. result_no_refusal)

decoded_other : (found : Option (List ℕ)) (n : ℕ) (out work : List ℕ) → NoRoom (decoded found n out work).answer
decoded_other none n out work = other_number (Disagree 0) refl
decoded_other (some s) n out work = result_no_refusal

pub decode_asks : (k n : ℕ) (positions values : List ℕ)
    → AsksFor (decode_room_answer k n) (refuse_if (not (eqb (length positions) (length values))) Length (refused Room))
    (decode_leaves k n positions values)
unfolding decode_room_answer decode_checks
decode_asks k n positions values =
    let bad = bad_shape k n in
    let unequal = not (eqb (length positions) (length values)) in
    let found = decode_of k n (held positions values) in
    asks_for (refuse_if bad Shape (the_result [])) (refuse_if unequal Length (the_result [])) _ k (decode_work n) _ _
    (decode_checks k n positions values) (λ out work. (decoded found n out work).answer) _ (check bad Shape _) (check unequal Length _)
    (λ out work. two_checks bad unequal _)
    (λ out work. unless (decode_checks k n positions values (length out) (length work)) out work _) (no_length unequal)
    (other_if (ltb (held_count (held positions values)) k) Few refl
    (other_if (ltb (first_outside n positions) (length positions)) (Position (first_outside n positions)) refl
    (other_if (ltb (first_repeat positions) (length positions)) (Repeat (first_repeat positions)) refl
    (other_if (ltb (first_above values) (length values)) (Value (first_above values)) refl result_no_refusal))))
    (decoded_other found n)

-- The writer and the reader

pub write_asks : (k n : ℕ) (file : List ℕ) → AsksFor (write_room_answer k n (length file)) (refused Room) (write_leaves k n file)
unfolding write_room_answer write_checks
write_asks k n file =
    let bad = bad_bundle_shape k n (length file) in
    asks_for (refuse_if bad Shape (the_result [])) (the_result []) (the_result []) (write_out n (blocks_of k (length file))) (bundle_work n) _ _
    (write_checks k n (length file)) _ _ (check bad Shape _) refl (λ out work. check bad Shape _)
    (λ out work. unless (write_checks k n (length file) (length out) (length work)) out work _) result_no_refusal result_no_refusal
    (λ out work. result_no_refusal)

judged_other : (k L b : ℕ) (found : Option (List ℕ)) → NoRoom (Reading.judged k L b found)
unfolding Reading.judged
judged_other k L b none = other_number (Disagree b) refl
judged_other k L b (some message) =
    other_if (bad_word message) (Word b) refl (other_if (bad_tail k L b message) (Tail b) refl result_no_refusal)

blocks_other : (s : List ℕ) (b left : ℕ) → NoRoom (blocks_answer s b left)
unfolding blocks_answer block_answer
blocks_other s b zero = result_no_refusal
blocks_other s b (suc left) =
    other_after (block_answer s b) (judged_other (k_in s) (length_in s) b (decoded_at s b)) (blocks_other s (suc b) left)

pub read_asks : (bundle : List ℕ) → AsksFor (read_room_answer bundle) (refused Room) (read_leaves bundle)
unfolding read_room_answer read_checks room_checks
read_asks bundle =
    let answer = blocks_answer bundle 0 (blocks_in bundle) in
    asks_for (layout_checks bundle) (the_result []) _ (length_in bundle) (bundle_work (n_in bundle)) _ _ (read_checks bundle) (λ out work. answer) _ refl refl
    (λ out work. refl)
    (λ out work. read_answer bundle out work)
    result_no_refusal (other_if (ltb (held_in bundle) (k_in bundle)) Few refl result_no_refusal)
    (λ out work. blocks_other bundle 0 (blocks_in bundle))
