-- A list is distinct where its numbers at different indices are.
-- Assumes nothing.
use mathlib.Core.List.{List, [], ◌∷◌}
use Prim.Native.Nat.{ℕ, suc, ◌<◌, suc-le-suc}
use native.Mathlib.Nat.{zero-lt-suc}
use native.Mathlib.Omega.{arith}
use lib.ListN.{length, get_or}
use Rattle.field.specs.Congruence.{◌≈◌}
use Rattle.poly.specs.Distinct.{Distinct}
use Rattle.lists.specs.Tab.{tab}
use Rattle.lists.proofs.Every.{every_of}
use Rattle.lists.proofs.Tab.{tab_at, tab_length}

pub distinct_of : (s : List ℕ) → ((i j : ℕ) → i < j → j < length s → ¬ (get_or s j 0 ≈ get_or s i 0)) → Distinct s
unfolding Distinct
distinct_of [] h = tt
distinct_of (a ∷ s) h = (
  every_of _ s (λ j l. h 0 (suc j) (zero-lt-suc j) (suc-le-suc l)),
  distinct_of s (λ i j l m. h (suc i) (suc j) (suc-le-suc l) (suc-le-suc m)),
)

pub distinct_tab : (n : ℕ) (f : ℕ → ℕ) → ((i j : ℕ) → i < j → j < n → ¬ (f j ≈ f i)) → Distinct (tab n f)
distinct_tab n f h = distinct_of (tab n f) (λ i j l m. at i j l (rw tab_length at m))
  where
    at : (i j : ℕ) → i < j → j < n → ¬ (get_or (tab n f) j 0 ≈ get_or (tab n f) i 0)
    at i j l m = rw (tab_at n f j m, tab_at n f i (omega arith)) (h i j l m)
