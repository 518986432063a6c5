-- The answer of the writer and of the reader, on paper: "The writer returns the bundle's length, the reader L."
use Rattle.std.specs.Prelude.{◌≡◌, List, [], ◌∷◌, ℕ, Result}
use Rattle.answers.specs.Leaves.{Leaves, leaving}
use Rattle.answers.specs.Refusals.{Answer, told}
use Rattle.answers.specs.declared.refusal.Refusal.{Refusal}

abbrev pub told_length : Result ℕ Refusal → Answer
told_length = told (λ number. number ∷ [])

-- a promise settles what a call leaves: two outcomes that meet it are equal, the answer, every byte and every cell
abbrev pub LengthSettled : Leaves → Type 0
LengthSettled it =
    (r s : Result ℕ Refusal) (l m w v : List ℕ) → leaving (told_length r) l w ≡ it → leaving (told_length s) m v ≡ it
    → (r ≡ s) × (l ≡ m) × (w ≡ v)
