-- What the checks of the writer and of the reader let through, and that none of them answers DISAGREE.
-- Assumes nothing.
use mathlib.Core.Path.{◌≡◌, refl, sym}
use mathlib.Core.Bool.{false, not, ◌||◌}
use mathlib.Core.List.{List, []}
use Prim.Native.Nat.{ℕ, ◌≤◌}
use borrow.Author.Tests.{le-ltb, ltb-false, eqb-false}
use lib.Dec.{ltb}
use Rattle.answers.specs.Refusals.{Answer, the_result, refused, after}
use Rattle.answers.specs.declared.refusal.Refusal.TheVariants.{Shape, Room, Few, Disagree, Form}
use Rattle.answers.proofs.Checks.{passed, or_false}
use Rattle.answers.proofs.Refusals.{result_no_refusal}
use Rattle.block.proofs.Disagreeing.{Before, passing, other, before_if}
use Rattle.bundle_layout.specs.Blocks.{blocks_of}
use Rattle.bundle_layout.specs.Shape.{bad_bundle_shape}
use Rattle.bundle_layout.specs.Fields.{k_in, n_in, length_in, held_in}
use Rattle.bundle_layout.specs.Layout.{bad_front, rest_good, layout_checks}
use Rattle.bundle.specs.Checks.{write_checks, room_checks, read_checks}
use Rattle.bundle_layout.specs.Rooms.{write_out, bundle_work}

pub write_passes : (k n L out work : ℕ) → bad_bundle_shape k n L ≡ false → write_out n (blocks_of k L) ≤ out → bundle_work n ≤ work
    → write_checks k n L out work ≡ the_result []
unfolding write_checks
write_passes k n L out work good enough room =
    simp (good, le-ltb out (write_out n (blocks_of k L)) enough, le-ltb work (bundle_work n) room)

pub write_passed : (k n L out work : ℕ) → write_checks k n L out work ≡ the_result []
    → (bad_bundle_shape k n L ≡ false) × (write_out n (blocks_of k L) ≤ out) × (bundle_work n ≤ work)
unfolding write_checks
write_passed k n L out work e =
    let shape = passed (bad_bundle_shape k n L) Shape _ [] e in
    let room = passed (ltb out (write_out n (blocks_of k L)) || ltb work (bundle_work n)) Room (the_result []) [] shape.1 in
    let enough = or_false (ltb out (write_out n (blocks_of k L))) (ltb work (bundle_work n)) room.0 in
    (shape.0, ltb-false out (write_out n (blocks_of k L)) enough.0, ltb-false work (bundle_work n) enough.1)

-- Answers that are a result of nothing, or another refusal than DISAGREE

pub before_disagree : {a : Answer} {b : ℕ} → Before a → a ≡ refused (Disagree b) → ⊥
before_disagree passing e = result_no_refusal e
before_disagree (other {number = number} differs) e = eqb-false number 8 differs (cc)

pub before_result : {a : Answer} {vs : List ℕ} → Before a → a ≡ the_result vs → a ≡ the_result []
before_result passing e = refl
before_result (other differs) e = absurd (result_no_refusal (sym e))

after_before : {a : Answer} → Before a → (later : Answer) → Before later → Before (after a later)
after_before passing later rest = rest
after_before (other differs) later rest = other differs

pub after_passed : {a : Answer} {vs : List ℕ} → Before a → (later : Answer) → after a later ≡ the_result vs
    → (a ≡ the_result []) × (later ≡ the_result vs)
after_passed passing later e = (refl, e)
after_passed (other differs) later e = absurd (result_no_refusal (sym e))

pub after_disagree : {a : Answer} {b : ℕ} → Before a → (later : Answer) → after a later ≡ refused (Disagree b)
    → (a ≡ the_result []) × (later ≡ refused (Disagree b))
after_disagree passing later e = (refl, e)
after_disagree (other differs) later e = absurd (before_disagree (other differs) e)

layout_before : (s : List ℕ) → Before (layout_checks s)
unfolding layout_checks
layout_before s =
    before_if (bad_front s) Form refl
    (before_if (bad_bundle_shape (k_in s) (n_in s) (length_in s)) Shape refl (before_if (not (rest_good s)) Form refl passing))

module _ (s : List ℕ) (out work : ℕ) where
  room_before : Before (room_checks s out work)
  unfolding room_checks
  room_before =
      before_if (ltb out (length_in s) || ltb work (bundle_work (n_in s))) Room refl (before_if (ltb (held_in s) (k_in s)) Few refl passing)

  pub read_before : Before (read_checks s out work)
  unfolding read_checks
  read_before = after_before (layout_before s) (room_checks s out work) room_before

  pub read_passes : layout_checks s ≡ the_result [] → length_in s ≤ out → bundle_work (n_in s) ≤ work → k_in s ≤ held_in s
      → read_checks s out work ≡ the_result []
  unfolding read_checks room_checks
  read_passes good enough room many =
      simp (good, le-ltb out (length_in s) enough, le-ltb work (bundle_work (n_in s)) room, le-ltb (held_in s) (k_in s) many)

  pub read_passed : read_checks s out work ≡ the_result []
      → (layout_checks s ≡ the_result []) × (length_in s ≤ out) × (bundle_work (n_in s) ≤ work) × (k_in s ≤ held_in s)
  unfolding read_checks room_checks
  read_passed e =
      let good = after_passed (layout_before s) (room_checks s out work) e in
      let room = passed (ltb out (length_in s) || ltb work (bundle_work (n_in s))) Room _ [] good.1 in
      let few = passed (ltb (held_in s) (k_in s)) Few (the_result []) [] room.1 in
      let enough = or_false (ltb out (length_in s)) (ltb work (bundle_work (n_in s))) room.0 in
      (good.0, ltb-false out (length_in s) enough.0, ltb-false work (bundle_work (n_in s)) enough.1, ltb-false (held_in s) (k_in s) few.0)
