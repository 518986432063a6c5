-- What the loop of `decode_block::mark_positions` keeps true.
use mathlib.Core.Path.{◌≡◌}
use mathlib.Core.List.{List}
use Prim.Native.Nat.{ℕ, ◌<◌}
use lib.ListN.{length, get_or}
use Rattle.decode_block.proofs.mark_positions.Given as goal

-- what is known inside the loop
pub record Turn (N : ℕ) (positions marks : List ℕ) (t : ℕ) : Type 0 where
  pub held : (i : ℕ) → i < t → ¬ (get_or marks (get_or positions i 0) 0 ≡ 0)
  pub only : (j : ℕ) → j < N → ¬ (get_or marks j 0 ≡ 0) → (i : ℕ) × (i < t) × (get_or positions i 0 ≡ j)

abbrev pub invariant-loop-position : goal.invariant-loop-position
invariant-loop-position l = Turn (length l.initial.marks) l.positions l.marks l.position-index
