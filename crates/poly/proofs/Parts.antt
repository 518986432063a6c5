-- The even and the odd places of a list: how many there are, and which number stands where.
-- Assumes nothing.
use mathlib.Core.Path.{◌≡◌, refl}
use mathlib.Core.List.{List, [], ◌∷◌}
use Prim.Native.Nat.{ℕ, zero, suc, ◌+◌, ◌/◌}
use native.Mathlib.Nat.{add-suc, suc-add}
use native.Mathlib.Omega.{arith}
use lib.ListN.{length, get_or}
use Rattle.poly.specs.Parts.{evens, odds}

pub parts_length : (s : List ℕ) → (length (evens s) ≡ (length s + 1) / 2) × (length (odds s) ≡ length s / 2)
unfolding evens odds
parts_length [] = (refl, refl)
parts_length (a ∷ s) = let later = parts_length s in (omega (arith, later.1), omega (arith, later.0))

pub parts_at : (s : List ℕ) (i : ℕ) → (get_or (evens s) i 0 ≡ get_or s (i + i) 0) × (get_or (odds s) i 0 ≡ get_or s (suc (i + i)) 0)
unfolding evens odds
parts_at [] zero = (refl, refl)
parts_at [] (suc i) = (refl, refl)
parts_at (a ∷ s) zero = (refl, (parts_at s 0).0)
parts_at (a ∷ s) (suc i) = rw (suc-add i (suc i), add-suc i i) ((parts_at s i).1, rw (suc-add i (suc i), add-suc i i) at (parts_at s (suc i)).0)
