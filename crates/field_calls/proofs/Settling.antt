-- Two answers that tell the same are equal.
-- Assumes nothing.
use mathlib.Core.Path.{◌≡◌, ap}
use mathlib.Core.List.{[], ◌∷◌}
use Prim.Native.Nat.{ℕ}
use Rattle.std.specs.Prelude.{Result}
use Rattle.answers.specs.declared.refusal.Refusal.{Refusal}
use Rattle.answers.proofs.Refusals.{told_one}
use Rattle.field.specs.declared.points.Point.{Point}
use Rattle.field_calls.specs.Operations.{told_symbol}
use Rattle.field_calls.specs.Points.{told_point}

pub told_symbol_one : (r s : Result ℕ Refusal) → told_symbol r ≡ told_symbol s → r ≡ s
told_symbol_one = told_one (λ v. v ∷ []) (λ u v e. cc)

pub told_point_one : (r s : Result Point Refusal) → told_point r ≡ told_point s → r ≡ s
told_point_one = told_one (λ x. x.0 ∷ []) (λ u v e. let same : u.0 ≡ v.0 = cc in ap (λ (w : ℕ). record { 0 = w }) same)
