-- Number and place are what is told of a refusal.
-- Assumes nothing.
use mathlib.Core.Path.{◌≡◌, ap₂}
use Prim.Native.Nat.{ℕ}
use Rattle.answers.specs.Refusals.{refused, number_of, place_of}
use Rattle.answers.specs.declared.refusal.Refusal.{Refusal}
use Rattle.answers.specs.Telling.{status_number, returned}

pub refused_returned : (x : Refusal) (s p : ℕ) → s ≡ number_of x → p ≡ place_of x → status_number s p ≡ returned (refused x)
refused_returned x s p number place = ap₂ status_number number place
