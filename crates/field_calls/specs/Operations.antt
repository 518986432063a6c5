-- What each field operation that callers can reach answers: its operands are counted as a list from 0.
use Rattle.std.specs.Prelude.{◌||◌, [], ◌∷◌, ℕ, ltb, eqb, Result}
use Rattle.field.specs.Field.{sum, difference, product, power, inverse}
use Rattle.answers.specs.Refusals.{Answer, the_result, refuse_if, told}
use Rattle.limits.specs.Values.{refuse_above}
use Rattle.answers.specs.declared.refusal.Refusal.{Refusal}
use Rattle.answers.specs.declared.refusal.Refusal.TheVariants.{Value}

-- an answer of the code, on paper
abbrev pub told_symbol : Result ℕ Refusal → Answer
told_symbol = told (λ v. v ∷ [])

abbrev pub sum_answer : ℕ → ℕ → Answer
sum_answer a b = refuse_above (a ∷ b ∷ []) (the_result (sum a b ∷ []))

abbrev pub difference_answer : ℕ → ℕ → Answer
difference_answer a b = refuse_above (a ∷ b ∷ []) (the_result (difference a b ∷ []))

abbrev pub product_answer : ℕ → ℕ → Answer
product_answer a b = refuse_above (a ∷ b ∷ []) (the_result (product a b ∷ []))

abbrev pub power_answer : ℕ → ℕ → Answer
power_answer x e = refuse_above (x ∷ e ∷ []) (the_result (power x e ∷ []))

-- VALUE: "some value above 65536, or 0 given to the field inverse"
abbrev pub inverse_answer : ℕ → Answer
inverse_answer x = refuse_if (ltb 65536 x || eqb x 0) (Value 0) (the_result (inverse x ∷ []))
