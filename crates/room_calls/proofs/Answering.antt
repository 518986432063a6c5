-- What a call that tells a room answers, from what its test of the sizes and the calls that work the room out gave.
-- Assumes nothing.
use mathlib.Core.Path.{◌≡◌, ap₂}
use mathlib.Core.Bool.{Bool, false}
use mathlib.Core.List.{[], ◌∷◌}
use Prim.Native.Nat.{ℕ}
use Rattle.answers.specs.Refusals.{the_result, refuse_if}
use Rattle.answers.specs.declared.refusal.Refusal.TheVariants.{Shape}
use Rattle.answers.proofs.Checks.{goes_on}

-- o and w are what the document states
pub tells : (o w : ℕ) {out work : ℕ} {bad : Bool} → bad ≡ false → out ≡ o → work ≡ w
    → the_result (out ∷ work ∷ []) ≡ refuse_if bad Shape (the_result (o ∷ w ∷ []))
tells o w good first second = goes_on Shape _ good (ap₂ (λ (x y : ℕ). the_result (x ∷ y ∷ [])) first second)
