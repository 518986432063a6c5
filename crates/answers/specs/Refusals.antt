-- Numbers a refusal carries (document 01, under that heading).
use Rattle.std.specs.Prelude.{Bool, cond, List, [], ℕ, ⊤, Result, Ok, Err}
use Rattle.answers.specs.declared.refusal.Refusal.{Refusal}
use Rattle.answers.specs.declared.refusal.Refusal.TheVariants.{Shape, Length, Room, Few, Position, Repeat, Value, Disagree, Word, Tail, Form}

abbrev pub number_of : Refusal → ℕ
number_of Shape = 1
number_of Length = 2
number_of Room = 3
number_of Few = 4
number_of (Position i) = 5
number_of (Repeat i) = 6
number_of (Value i) = 7
number_of (Disagree b) = 8
number_of (Word b) = 9
number_of (Tail b) = 10
number_of Form = 11

-- "The place is 0 unless stated."
abbrev pub place_of : Refusal → ℕ
place_of Shape = 0
place_of Length = 0
place_of Room = 0
place_of Few = 0
place_of (Position i) = i
place_of (Repeat i) = i
place_of (Value i) = i
place_of (Disagree b) = b
place_of (Word b) = b
place_of (Tail b) = b
place_of Form = 0

-- an answer on paper: "Each answer is the result or a refusal number with one place number."
pub data Answer : Type 0 where
  the_result : List ℕ → Answer
  refusal : ℕ → ℕ → Answer

abbrev pub refused : Refusal → Answer
refused x = refusal (number_of x) (place_of x)

-- a check: where it is bad, this refusal, else what the later checks and the work answer
abbrev pub refuse_if : Bool → Refusal → Answer → Answer
refuse_if bad x later = cond bad (refused x) later

-- what comes after checks that passed
abbrev pub after : Answer → Answer → Answer
after (refusal n i) later = refusal n i
after (the_result vs) later = later

-- an answer of the code, on paper: its value as the numbers that the caller gets, or its refusal
abbrev pub told : {T : Type 0} → (T → List ℕ) → Result T Refusal → Answer
told numbers (Ok x) = the_result (numbers x)
told numbers (Err x) = refused x

-- the same where the result lies in lent memory
abbrev pub told_outcome : Result ⊤ Refusal → Answer
told_outcome = told (λ x. [])
