-- Folded, and then transformed where they stand, the coefficients give the values at the points between.
-- Assumes nothing.
use mathlib.Core.Path.{◌≡◌, refl, sym, ap, ap₂, subst, ◌∙◌}
use mathlib.Core.List.{List}
use Prim.Native.Nat.{ℕ, ◌+◌, ◌*◌, ◌/◌, ◌^◌, ◌≤◌}
use native.Mathlib.Omega.{arith}
use lib.ListN.{length, take, drop}
use lib.Seq.{length-take-le}
use Rattle.field.specs.Congruence.{◌≈◌}
use Rattle.field.specs.Points.{root_of}
use Rattle.field.specs.Symbol.{Symbols}
use Rattle.poly.proofs.Symbols.{tab_symbols}
use Rattle.lists.proofs.Tab.{tab_length}
use Rattle.transform_halving.specs.Transform.{transform_of}
use Rattle.lists.specs.Part.{part, replaced}
use Rattle.transform_table.specs.Turns.{Tabled}
use Rattle.lists.proofs.Part.{replaced_length, replaced_part, replaced_behind, replaced_twice}
use Rattle.decode_between.specs.Between.{values_between, folded}
use Rattle.decode_between.specs.Foldable.{Foldable}
use Rattle.decode_between.proofs.Between.{root_one}
use Rattle.decode_between.proofs.Folding.{folded_transform}
use Rattle.decode_between.proofs.Foldable.{size_N, size_K, levels, rows, table_kept}
use Rattle.decode_between.proofs.Turning.{tabled}

module _ (N K : ℕ) (d : List ℕ) (room : Foldable N K d) where
  inside : N + K ≤ length d
  inside = omega (arith, room.table.long, room.K_fits)

  folded_length : length (folded N K (take N d)) ≡ K
  unfolding folded
  folded_length = tab_length K _

  folded_symbols : Symbols (folded N K (take N d))
  unfolding folded
  folded_symbols = tab_symbols K _ (λ i l. omega arith)

  module _ (s : List ℕ) (folds : s ≡ replaced N K d (folded N K (take N d))) where
    pub folded_part : part N K s ≡ folded N K (take N d)
    folded_part = ap (part N K) folds ∙ replaced_part N K d inside (folded N K (take N d)) folded_length

    pub folded_same : length s ≡ length d
    folded_same = ap length folds ∙ replaced_length N K d inside (folded N K (take N d)) folded_length

    pub transform_asked : (x t : List ℕ) → x ≡ part N K s → t ≡ drop (3 * N) s → Tabled x t (2 * N / K)
    transform_asked x t lent powers =
        tabled N K s
        (table_kept N d room.table s folded_same
        (ap (drop (3 * N)) folds ∙ replaced_behind N K d inside (folded N K (take N d)) folded_length (3 * N) (omega (arith, room.K_fits))))
        room.K_power room.K_fits t powers x
        (ap length (lent ∙ folded_part) ∙ folded_length)
        (subst Symbols (sym (lent ∙ folded_part)) folded_symbols)

    pub transformed : (t : List ℕ) → t ≡ replaced N K s (transform_of (part N K s)) → t ≡ replaced N K d (values_between N K (take N d))
    transformed t is =
        is
        ∙ ap₂ (replaced N K) folds (ap transform_of folded_part ∙ folded_transform N K (take N d) (rows N K d room) front_length one)
        ∙ replaced_twice N K d inside (folded N K (take N d)) folded_length (values_between N K (take N d))
      where
        front_length : length (take N d) ≡ N
        front_length = length-take-le N d (omega (arith, inside))

        one : root_of K ^ K ≈ 1
        one = root_one N K _ _ (size_N N d room.table) refl (size_K N K d room) refl (levels N K d room) room.table.N_root
