-- What is proved of the answers, as statements: proofs/Theorems.antt proves each under the same name in small letters.
use Rattle.std.specs.Prelude.{◌≡◌, ℕ, ⊤, Result}
use Rattle.answers.specs.Refusals.{refused, number_of, place_of, told_outcome}
use Rattle.answers.specs.declared.refusal.Refusal.{Refusal}
use Rattle.answers.specs.Telling.{Returned, returned}

-- number and place tell the refusal
abbrev pub RefusalsTold : Type 0
RefusalsTold = (x y : Refusal) → refused x ≡ refused y → x ≡ y

-- Two outcomes that meet a promise are equal

abbrev pub NumberSettled : Type 0
NumberSettled = (x : Refusal) (r s : ℕ) → r ≡ number_of x → s ≡ number_of x → r ≡ s

abbrev pub PlaceSettled : Type 0
PlaceSettled = (x : Refusal) (r s : ℕ) → r ≡ place_of x → s ≡ place_of x → r ≡ s

abbrev pub TellSettled : Type 0
TellSettled = (o : Result ⊤ Refusal) (r s : Returned) → r ≡ returned (told_outcome o) → s ≡ returned (told_outcome o) → r ≡ s
