-- From the coefficients of M in front: what the cells hold after each step of weighing.
-- Assumes nothing.
use mathlib.Core.Path.{◌≡◌, refl, sym, ap, subst, ◌∙◌}
use mathlib.Core.List.{List}
use Prim.Native.Nat.{ℕ, ◌+◌, ◌*◌, ◌≤◌}
use native.Mathlib.Nat.{le_of_eq}
use native.Mathlib.Omega.{arith}
use lib.ListN.{length, get_or, take, drop}
use lib.Seq.{length-take-le}
use Rattle.field.specs.Field.{product, inverse}
use Rattle.field.specs.Symbol.{Symbols}
use Rattle.lists.specs.Tab.{tab}
use Rattle.lists.proofs.Tab.{tab_length, tab_ext}
use Rattle.transform_halving.specs.Transform.{transform_of}
use Rattle.transform_halving.proofs.Undo.{transform_length}
use Rattle.lists.specs.Part.{part, replaced}
use Rattle.transform_table.specs.Turns.{Tabled}
use Rattle.lists.proofs.Part.{replaced_front, replaced_length, replaced_part, replaced_at, replaced_behind}
use Rattle.decode_between.specs.Between.{values_between}
use Rattle.decode_between.specs.Foldable.{Foldable}
use Rattle.decode_between.proofs.Foldable.{N_small, table_kept}
use Rattle.decode_between.proofs.Turning.{whole_tabled}

module _ (N K : ℕ) (d : List ℕ) (room : Foldable N K d) where
  values_length : length (values_between N K (take N d)) ≡ K
  unfolding values_between
  values_length = tab_length K _

  inside : N + K ≤ length d
  inside = omega (arith, room.table.long, room.K_fits)

  module _ (s₁ : List ℕ) (valued : s₁ ≡ replaced N K d (values_between N K (take N d))) where
    long₁ : length s₁ ≡ length d
    long₁ = ap length valued ∙ replaced_length N K d inside (values_between N K (take N d)) values_length

    pub invert_asked : (length s₁ ≡ 4 * N) × (K ≤ N) × (N ≤ 65536)
    invert_asked = (long₁ ∙ room.table.long, room.K_fits, N_small N d room.table)

    -- the inverses
    I : List ℕ
    I = tab K (λ i. inverse (product (product N K) (get_or s₁ (N + i) 0)))

    I_length : length I ≡ K
    unfolding I
    I_length = tab_length K _

    I_is : I ≡ tab K (λ i. inverse (product (product N K) (get_or (values_between N K (take N d)) i 0)))
    unfolding I
    I_is =
        tab_ext K _ _ (λ i l.
        ap (λ (x : ℕ). inverse (product (product N K) x))
        (ap (λ (s : List ℕ). get_or s (N + i) 0) valued ∙ replaced_at N K d inside (values_between N K (take N d)) values_length i l))

    module _ (s₂ : List ℕ) (inverted : s₂ ≡ replaced (2 * N) K s₁ (tab K (λ i. inverse (product (product N K) (get_or s₁ (N + i) 0))))) where
      inside₂ : 2 * N + K ≤ length s₁
      inside₂ = omega (arith, long₁, room.table.long, room.K_fits)

      long₂ : length s₂ ≡ length d
      unfolding I
      long₂ = ap length inverted ∙ replaced_length (2 * N) K s₁ inside₂ I I_length ∙ long₁

      front₂ : take N s₂ ≡ take N d
      front₂ =
          ap (take N) inverted
          ∙ replaced_front N (2 * N) K s₁ (tab K (λ i. inverse (product (product N K) (get_or s₁ (N + i) 0)))) (omega arith) (omega (arith, inside₂))
          ∙ ap (take N) valued
          ∙ replaced_front N N K d (values_between N K (take N d)) (le_of_eq refl) (omega (arith, inside))

      behind₂ : drop (3 * N) s₂ ≡ drop (3 * N) d
      unfolding I
      behind₂ =
          ap (drop (3 * N)) inverted
          ∙ replaced_behind (2 * N) K s₁ inside₂ I I_length (3 * N) (omega (arith, room.K_fits))
          ∙ ap (drop (3 * N)) valued
          ∙ replaced_behind N K d inside (values_between N K (take N d)) values_length (3 * N) (omega (arith, room.K_fits))

      pub transform_asked : (x t : List ℕ) → x ≡ part 0 N s₂ → t ≡ drop (3 * N) s₂ → Tabled x t 2
      transform_asked x t lent powers =
          whole_tabled N s₂ t (table_kept N d room.table s₂ long₂ behind₂) powers x
          (ap length lent ∙ length-take-le N s₂ (omega (arith, long₂, room.table.long)))
          (subst Symbols (sym (lent ∙ front₂)) room.symbols)

      module _ (s₃ : List ℕ) (transformed : s₃ ≡ replaced 0 N s₂ (transform_of (part 0 N s₂))) where
        inside₃ : 0 + N ≤ length s₂
        inside₃ = omega (arith, long₂, room.table.long)

        T_length : length (transform_of (part 0 N s₂)) ≡ N
        T_length = transform_length (part 0 N s₂) ∙ length-take-le N s₂ (omega (arith, inside₃))

        behind₃ : (m : ℕ) → N ≤ m → drop m s₃ ≡ drop m s₂
        behind₃ m l = ap (drop m) transformed ∙ replaced_behind 0 N s₂ inside₃ (transform_of (part 0 N s₂)) T_length m (omega arith)

        pub weighed : take N s₃ ≡ transform_of (take N d)
        weighed = ap (take N) transformed ∙ replaced_part 0 N s₂ inside₃ (transform_of (part 0 N s₂)) T_length ∙ ap transform_of front₂

        pub inverses_are : take K (drop (2 * N) s₃) ≡ tab K (λ i. inverse (product (product N K) (get_or (values_between N K (take N d)) i 0)))
        unfolding I
        inverses_are =
            ap (take K) (behind₃ (2 * N) (omega arith))
            ∙ ap (part (2 * N) K) inverted
            ∙ replaced_part (2 * N) K s₁ inside₂ I I_length
            ∙ I_is

        pub powers_stay : drop (3 * N) s₃ ≡ drop (3 * N) d
        powers_stay = behind₃ (3 * N) (omega arith) ∙ behind₂
