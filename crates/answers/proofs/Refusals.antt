-- Number and place tell the refusal, so an answer told in document 01's numbers is one answer of the enum.
-- Assumes nothing.
use mathlib.Core.Path.{◌≡◌, refl, sym, ap, ◌∙◌}
use mathlib.Core.List.{List, [], ◌∷◌}
use Prim.Native.Nat.{ℕ, pred}
use native.Mathlib.Omega.{arith}
use lib.ListN.{get_or}
use Rattle.std.specs.Prelude.{⊤, Result, Ok, Err}
use Rattle.answers.specs.Refusals.{Answer, the_result, refusal, refused, number_of, place_of, told, told_outcome}
use Rattle.answers.specs.declared.refusal.Refusal.{Refusal}
use Rattle.answers.specs.declared.refusal.Refusal.TheVariants.{Shape, Length, Room, Few, Position, Repeat, Value, Disagree, Word, Tail, Form}

-- the refusal of a number and a place
named : ℕ → ℕ → Refusal
named n i = get_or (Shape ∷ Length ∷ Room ∷ Few ∷ Position i ∷ Repeat i ∷ Value i ∷ Disagree i ∷ Word i ∷ Tail i ∷ []) (pred n) Form

named_told : (x : Refusal) → named (number_of x) (place_of x) ≡ x
unfolding named
named_told Shape = refl
named_told Length = refl
named_told Room = refl
named_told Few = refl
named_told (Position i) = refl
named_told (Repeat i) = refl
named_told (Value i) = refl
named_told (Disagree b) = refl
named_told (Word b) = refl
named_told (Tail b) = refl
named_told Form = refl

-- the refusal that an answer tells; Form where it tells a result
unfold_told : Answer → Refusal
unfold_told (the_result vs) = Form
unfold_told (refusal n i) = named n i

pub refusals_told : (x y : Refusal) → refused x ≡ refused y → x ≡ y
unfolding unfold_told
refusals_told x y e = sym (named_told x) ∙ ap unfold_told e ∙ named_told y

pub result_no_refusal : {vs : List ℕ} {n i : ℕ} → the_result vs ≡ refusal n i → ⊥
result_no_refusal e = let z : ◌≡◌ {A = ℕ} 0 1 = cc in omega arith

numbers_of : Answer → List ℕ
numbers_of (the_result vs) = vs
numbers_of (refusal n i) = []

result_same : {us vs : List ℕ} → the_result us ≡ the_result vs → us ≡ vs
unfolding numbers_of
result_same e = ap numbers_of e

-- two answers that tell the same are equal, where the numbers of two values tell them apart
module _ {T : Type 0} (numbers : T → List ℕ) (apart : (x y : T) → numbers x ≡ numbers y → x ≡ y) where
  pub told_one : (r s : Result T Refusal) → told numbers r ≡ told numbers s → r ≡ s
  told_one (Ok x) (Ok y) e = ap Ok (apart x y (result_same e))
  told_one (Ok x) (Err y) e = absurd (result_no_refusal e)
  told_one (Err x) (Ok y) e = absurd (result_no_refusal (sym e))
  told_one (Err x) (Err y) e = ap Err (refusals_told x y e)

pub told_outcome_one : (r s : Result ⊤ Refusal) → told_outcome r ≡ told_outcome s → r ≡ s
told_outcome_one = told_one (λ x. []) (λ x y e. refl)
