-- What is proved of the definitions, as statements: proofs/Theorems.antt proves each under the same name in small letters. Each promise settles
-- the answer.
use Rattle.std.specs.Prelude.{◌≡◌, ℕ, Result}
use Rattle.answers.specs.Refusals.{Answer}
use Rattle.answers.specs.declared.refusal.Refusal.{Refusal}
use Rattle.field.specs.declared.points.Point.{Point}
use Rattle.field_calls.specs.Operations.{told_symbol, sum_answer, difference_answer, product_answer, power_answer, inverse_answer}
use Rattle.field_calls.specs.Points.{told_point, point_answer}

-- two answers that tell the same are equal
abbrev pub SymbolAnswerSettled : Answer → Type 0
SymbolAnswerSettled t = (r s : Result ℕ Refusal) → told_symbol r ≡ t → told_symbol s ≡ t → r ≡ s

abbrev pub SumSettled : Type 0
SumSettled = (a b : ℕ) → SymbolAnswerSettled (sum_answer a b)

abbrev pub DifferenceSettled : Type 0
DifferenceSettled = (a b : ℕ) → SymbolAnswerSettled (difference_answer a b)

abbrev pub ProductSettled : Type 0
ProductSettled = (a b : ℕ) → SymbolAnswerSettled (product_answer a b)

abbrev pub PowerSettled : Type 0
PowerSettled = (x e : ℕ) → SymbolAnswerSettled (power_answer x e)

abbrev pub InverseSettled : Type 0
InverseSettled = (x : ℕ) → SymbolAnswerSettled (inverse_answer x)

abbrev pub PointSettled : Type 0
PointSettled = (n i : ℕ) (r s : Result Point Refusal) → told_point r ≡ point_answer n i → told_point s ≡ point_answer n i → r ≡ s
