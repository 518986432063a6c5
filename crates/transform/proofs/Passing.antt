-- What the checks tell: where they pass, the list can be transformed and there is room; and what is left then.
-- Assumes nothing.
use mathlib.Core.Path.{◌≡◌, refl, sym, ap, ap₂, ◌∙◌}
use mathlib.Core.Bool.{Bool, false, ◌||◌}
use mathlib.Core.List.{List, [], ◌++◌}
use Prim.Native.Nat.{ℕ, ◌-◌, ◌≤◌}
use borrow.Author.Tests.{ltb-false, eqb-true, not-false}
use lib.Dec.{ltb, eqb}
use lib.ListN.{length, take, drop, replicate}
use Rattle.answers.specs.Leaves.{leaving, zeroed}
use Rattle.answers.specs.Refusals.{the_result, refuse_if}
use Rattle.limits.specs.Shape.{longest}
use Rattle.field.specs.Size.{size_of}
use Rattle.limits.specs.Values.{refuse_above}
use Rattle.answers.specs.declared.refusal.Refusal.TheVariants.{Shape, Room}
use Rattle.answers.proofs.Checks.{passed, or_false}
use Rattle.answers.proofs.Leaves.{leaves_done, lent_length, zeroed_part}
use Rattle.limits.proofs.Values.{symbols_passed}
use Rattle.transform.specs.Calls.{transform_checks, one_of, call_leaves}
use Rattle.transform.specs.Lengths.{bad_length}
use Rattle.transform_halving.specs.Transformable.{Transformable}

pub good_size : (n : ℕ) → bad_length n ≡ false → n ≡ size_of n
unfolding bad_length
good_size n e = sym (eqb-true (size_of n) n (not-false _ (or_false (eqb n 0 || ltb longest n) _ e).1))

-- of a list and the length of the working space
module _ (list : List ℕ) (room : ℕ) (good : the_result [] ≡ transform_checks list room) where
  after_shape : (bad_length (length list) ≡ false) × (refuse_if (ltb room (length list)) Room (refuse_above list (the_result [])) ≡ the_result [])
  unfolding transform_checks
  after_shape = passed (bad_length (length list)) Shape _ [] (sym good)

  after_room : (ltb room (length list) ≡ false) × (refuse_above list (the_result []) ≡ the_result [])
  after_room = passed (ltb room (length list)) Room _ [] after_shape.1

  pub checks_able : Transformable list
  checks_able = record { size = good_size (length list) after_shape.0; symbols = symbols_passed list (sym after_room.1) }

  pub checks_enough : length list ≤ room
  checks_enough = ltb-false room (length list) after_room.0

-- the stated part is cleared, and what lies behind it stays
pub stated_zeroed : (size : ℕ) (work e : List ℕ) → size ≤ length work → e ≡ replicate (length (take (size - 0) work)) 0
    → e ++ drop (size - 0) work ≡ zeroed size work
stated_zeroed size work e enough zeros =
    zeroed_part size size work refl enough e (zeros ∙ ap (λ (m : ℕ). replicate m 0) (lent_length size size work refl enough))

-- what is left once the list is transformed and as much of the working space as it is long cleared
pub both_leave : (back : Bool) (list work now e : List ℕ) → the_result [] ≡ transform_checks list (length work) → now ≡ one_of back list
    → length now ≡ length list → e ≡ zeroed (length now) work → leaving (the_result []) now e ≡ call_leaves back list work
both_leave back list work now e good is long zeros =
    ap₂ (leaving (the_result [])) is (zeros ∙ ap (λ (n : ℕ). zeroed n work) long) ∙ leaves_done (transform_checks list (length work)) list work _ (sym good)

-- what both calls are proved by
pub ruleset calls = (checks_able, checks_enough, both_leave)
