-- Distinct positions of a code word stand for distinct points.
-- Assumes nothing.
use mathlib.Core.Path.{◌≡◌, sym}
use mathlib.Core.List.{List}
use Prim.Native.Nat.{ℕ, ◌<◌, ◌≤◌}
use native.Mathlib.Nat.{lt_trans, lt_of_lt_of_le, le_trans}
use lib.ListN.{length, get_or}
use Rattle.field.specs.Congruence.{◌≈◌}
use Rattle.field.specs.Points.{point_of}
use Rattle.limits.specs.Shape.{longest}
use Rattle.field.specs.Size.{size_of}
use Rattle.field.proofs.Congruence.{reduced}
use Rattle.field.proofs.Ring.{power_lt}
use Rattle.limits.proofs.Shape.{longest_le}
use Rattle.field.proofs.Sizes.{size_enough}
use Rattle.field.proofs.Theorems.{points_distinct}
use Rattle.poly.specs.Distinct.{Distinct}
use Rattle.poly.proofs.Distinct.{distinct_tab}
use Rattle.lists.proofs.Tab.{tab_length, tab_at}
use Rattle.code.specs.Decoding.{points_of}
use Rattle.code.specs.Positions.{Inside}
use Rattle.code.specs.Repeats.{Apart}

point_lt : (N i : ℕ) → point_of N i < 65537
unfolding point_of
point_lt N i = power_lt _ i

-- of any two of the N positions
pub point_one : (n i j : ℕ) → i < size_of n → j < size_of n → point_of (size_of n) i ≈ point_of (size_of n) j → i ≡ j
point_one n i j li lj same = points_distinct n i j li lj (reduced same (point_lt _ i) (point_lt _ j))

position_one : (n i j : ℕ) → n ≤ longest → i < n → j < n → point_of (size_of n) i ≈ point_of (size_of n) j → i ≡ j
position_one n i j short li lj = point_one n i j (lt_of_lt_of_le li enough) (lt_of_lt_of_le lj enough)
  where
    enough : n ≤ size_of n
    enough = size_enough n (le_trans short longest_le)

pub points_length : (m n : ℕ) (positions : List ℕ) → length (points_of m n positions) ≡ m
unfolding points_of
points_length m n positions = tab_length m _

pub points_at : (m n : ℕ) (positions : List ℕ) (j : ℕ) → j < m → get_or (points_of m n positions) j 0 ≡ point_of (size_of n) (get_or positions j 0)
unfolding points_of
points_at m n positions j l = tab_at m _ j l

pub points_apart : (m n : ℕ) (positions : List ℕ) → n ≤ longest → m ≤ length positions → Inside n positions → Apart positions
    → Distinct (points_of m n positions)
unfolding points_of
points_apart m n positions short few inside apart =
    distinct_tab m _ (λ i j l lj same. apart i j l (lt_of_lt_of_le lj few) (sym (position_one n _ _ short (inside j (lt_of_lt_of_le lj few)) (inside i (lt_trans l (lt_of_lt_of_le lj few))) same)))
