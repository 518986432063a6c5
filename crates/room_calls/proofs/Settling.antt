-- Two answers of a call that tell the same on paper are equal.
-- Assumes nothing.
use mathlib.Core.Path.{◌≡◌}
use mathlib.Core.List.{[], ◌∷◌}
use Prim.Native.Nat.{ℕ}
use Rattle.std.specs.Prelude.{Result}
use Rattle.answers.specs.declared.refusal.Refusal.{Refusal}
use Rattle.answers.proofs.Refusals.{told_one}
use Rattle.room_calls.specs.Rooms.{told_room}
use Rattle.room_calls.specs.declared.space.Space.{Space}

space : ℕ → ℕ → Space
space out work = record { out = out; work = work }

pub told_room_one : (a b : Result Space Refusal) → told_room a ≡ told_room b → a ≡ b
unfolding space
told_room_one =
    told_one (λ s. s.out ∷ s.work ∷ []) (λ r s e. let same : space r.out r.work ≡ space s.out s.work = cc in same)
