-- DISAGREE is answered by the comparison alone: the checks before it answer other refusals or let the call through.
-- Assumes nothing.
use mathlib.Core.Path.{◌≡◌, refl}
use mathlib.Core.Bool.{Bool, true, false, not, ◌||◌}
use mathlib.Core.List.{List, [], ◌∷◌}
use mathlib.Core.Option.{Option, some, none}
use Prim.Native.Nat.{ℕ}
use borrow.Author.Tests.{eqb-false}
use lib.Dec.{ltb, eqb}
use lib.ListN.{length}
use Rattle.answers.specs.Leaves.{unless_refused}
use Rattle.answers.specs.Refusals.{Answer, the_result, refusal, refused, refuse_if, number_of}
use Rattle.limits.specs.Shape.{bad_shape}
use Rattle.limits.specs.Values.{first_above}
use Rattle.answers.specs.declared.refusal.Refusal.{Refusal}
use Rattle.answers.specs.declared.refusal.Refusal.TheVariants.{Shape, Length, Room, Few, Position, Repeat, Value, Disagree}
use Rattle.answers.proofs.Refusals.{result_no_refusal}
use Rattle.code.specs.Decoded.{decoded}
use Rattle.block.specs.Checks.{decode_checks}
use Rattle.code.specs.Held.{held}
use Rattle.code.specs.Positions.{first_outside}
use Rattle.code.specs.Repeats.{first_repeat}
use Rattle.code.specs.Rooms.{decode_work}

-- an answer with another number than DISAGREE's, or with nothing as its result
pub data Before : Answer → Type 0 where
  passing : Before (the_result [])
  other : {number place : ℕ} → eqb number 8 ≡ false → Before (refusal number place)

pub before_if : (bad : Bool) (x : Refusal) {later : Answer} → eqb (number_of x) 8 ≡ false → Before later → Before (refuse_if bad x later)
before_if true x here after = other here
before_if false x here after = after

pub checks_before : (k n : ℕ) (positions values : List ℕ) (out work : ℕ) → Before (decode_checks k n positions values out work)
unfolding decode_checks
checks_before k n positions values out work =
    before_if (bad_shape k n) Shape refl
    (before_if (not (eqb (length positions) (length values))) Length refl
    (before_if (ltb out k || ltb work (decode_work n)) Room refl
    (before_if (ltb (length (held positions values).positions) k) Few refl
    (before_if (ltb (first_outside n positions) (length positions)) (Position (first_outside n positions)) refl
    (before_if (ltb (first_repeat positions) (length positions)) (Repeat (first_repeat positions)) refl
    (before_if (ltb (first_above values) (length values)) (Value (first_above values)) refl passing))))))

-- so where DISAGREE is answered, the checks passed and decoding found none
pub disagree_none : (a : Answer) (found : Option (List ℕ)) (n : ℕ) (out work : List ℕ) → Before a
    → (unless_refused a out work (decoded found n out work)).answer ≡ refused (Disagree 0) → (a ≡ the_result []) × (found ≡ none)
disagree_none (refusal number place) found n out work (other differs) e = absurd (eqb-false number 8 differs (cc))
disagree_none (the_result []) none n out work passing e = (refl, refl)
disagree_none (the_result []) (some s) n out work passing e = absurd (result_no_refusal e)
disagree_none (the_result (v ∷ vs)) found n out work before e = elim before [ ]
