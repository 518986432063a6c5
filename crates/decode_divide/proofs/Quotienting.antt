-- From the coefficients of N·f·M, which stand in front, step by step to those of f: what the cells hold after each.
-- Assumes nothing.
use mathlib.Core.Path.{◌≡◌, sym, ap, ap₂, subst, ◌∙◌}
use mathlib.Core.List.{List, ◌++◌}
use Prim.Native.Nat.{ℕ, ◌+◌, ◌-◌, ◌*◌, ◌/◌, ◌<◌, ◌≤◌}
use native.Mathlib.Nat.{add-zero}
use native.Mathlib.Omega.{arith}
use lib.ListN.{length, get_or, take, drop}
use lib.Seq.{take_at, drop-append-add, drop-drop, get_or-drop}
use Rattle.field.specs.Field.{difference, product, power, inverse}
use Rattle.field.specs.Points.{root_of}
use Rattle.field.specs.Symbol.{Symbols}
use Rattle.field.proofs.Ring.{product_lt}
use Rattle.lists.specs.Tab.{tab}
use Rattle.poly.proofs.Symbols.{tab_symbols}
use Rattle.lists.proofs.Tab.{tab_length, tab_ext}
use Rattle.transform_halving.specs.Transform.{sums}
use Rattle.transform_halving.proofs.Sums.{sums_length, sums_symbols}
use Rattle.lists.specs.Part.{part, replaced}
use Rattle.transform_table.specs.Turns.{Tabled}
use Rattle.lists.proofs.Part.{replaced_length, replaced_part, replaced_at, replaced_past, replaced_behind, replaced_twice}
use Rattle.decode_between.specs.Between.{psi, values_between}
use Rattle.decode_between.specs.Foldable.{PsiTable, Foldable}
use Rattle.decode_between.proofs.Foldable.{K_some, table_kept}
use Rattle.decode_between.proofs.Turning.{tabled}
use Rattle.decode_divide.specs.Quotients.{quotients, untwisted}

module _ (k N K : ℕ) (d : List ℕ) (room : Foldable N K d) (few : k ≤ K) where
  inside : N + K ≤ length d
  inside = omega (arith, room.table.long, room.K_fits)

  values_length : length (values_between N K (take N d)) ≡ K
  unfolding values_between
  values_length = tab_length K _

  Q : List ℕ
  Q = quotients N K (take N d) (drop (2 * N) d)

  Q_length : length Q ≡ K
  unfolding Q quotients
  Q_length = tab_length K _

  Q_symbols : Symbols Q
  unfolding Q quotients
  Q_symbols = tab_symbols K _ (λ i l. product_lt _ _)

  E : List ℕ
  E = sums (inverse (root_of K)) Q

  E_length : length E ≡ K
  unfolding E
  E_length = sums_length (inverse (root_of K)) Q ∙ Q_length

  -- x in the room's place
  module _ (s x : List ℕ) (is : s ≡ replaced N K d x) (long : length x ≡ K) where
    same : length s ≡ length d
    same = ap length is ∙ replaced_length N K d inside x long

    behind : (m : ℕ) → N + K ≤ m → drop m s ≡ drop m d
    behind m h = ap (drop m) is ∙ replaced_behind N K d inside x long m h

    entry : (i : ℕ) → i < K → get_or s (N + i) 0 ≡ get_or x i 0
    entry i l = ap (λ (c : List ℕ). get_or c (N + i) 0) is ∙ replaced_at N K d inside x long i l

    past : (i : ℕ) → N + K ≤ i → get_or s i 0 ≡ get_or d i 0
    past i h = ap (λ (c : List ℕ). get_or c i 0) is ∙ replaced_past N K d inside x long i h

    again : (y : List ℕ) → replaced N K s y ≡ replaced N K d y
    again y = ap (λ (c : List ℕ). replaced N K c y) is ∙ replaced_twice N K d inside x long y

    held : PsiTable N s
    held = table_kept N d room.table s same (behind (3 * N) (omega (arith, room.K_fits)))

  module _ (s₁ : List ℕ) (valued : s₁ ≡ replaced N K d (values_between N K (take N d))) where
    pub divide_asked : (length s₁ ≡ 4 * N) × (K ≤ N)
    divide_asked = (same s₁ (values_between N K (take N d)) valued values_length ∙ room.table.long, room.K_fits)

    module _ (s₂ : List ℕ) (divided : s₂ ≡ replaced N K s₁ (tab K (λ i. product (get_or s₁ (N + i) 0) (get_or s₁ (2 * N + i) 0)))) where
      divided_is : s₂ ≡ replaced N K d Q
      unfolding Q quotients
      divided_is =
          divided
          ∙ again s₁ (values_between N K (take N d)) valued values_length (tab K (λ i. product (get_or s₁ (N + i) 0) (get_or s₁ (2 * N + i) 0)))
          ∙ ap (replaced N K d)
          (tab_ext K _ _ (λ i l.
          ap₂ product (entry s₁ (values_between N K (take N d)) valued values_length i l)
          (past s₁ (values_between N K (take N d)) valued values_length (2 * N + i) (omega (arith, room.K_fits)) ∙ sym (get_or-drop (2 * N) d i 0))))

      part_is : part N K s₂ ≡ Q
      part_is = ap (part N K) divided_is ∙ replaced_part N K d inside Q Q_length

      pub back_asked : (x t : List ℕ) → x ≡ part N K s₂ → t ≡ drop (3 * N) s₂ → Tabled x t (2 * N / K)
      back_asked x t lent powers =
          tabled N K s₂ (held s₂ Q divided_is Q_length) room.K_power room.K_fits t powers x
          (ap length (lent ∙ part_is) ∙ Q_length)
          (subst Symbols (sym (lent ∙ part_is)) Q_symbols)

      module _ (s₃ : List ℕ) (back : s₃ ≡ replaced N K s₂ (sums (inverse (root_of (length (part N K s₂)))) (part N K s₂))) where
        back_is : s₃ ≡ replaced N K d E
        unfolding E
        back_is =
            back
            ∙ again s₂ Q divided_is Q_length _
            ∙ ap (λ (q : List ℕ). replaced N K d (sums (inverse (root_of (length q))) q)) part_is
            ∙ ap (λ (n : ℕ). replaced N K d (sums (inverse (root_of n)) Q)) Q_length

        pub untwist_asked : PsiTable N s₃ × (k ≤ N) × (get_or s₃ N 0 < 65537)
        unfolding E
        untwist_asked = (
          held s₃ E back_is E_length,
          omega (arith, few, room.K_fits),
          rw (ap (λ (i : ℕ). get_or s₃ i 0) (sym (add-zero N)) ∙ entry s₃ E back_is E_length 0 (K_some N K d room))
              (sums_symbols (inverse (root_of K)) Q 0 (omega (arith, E_length, K_some N K d room))),
        )

        module _ (s₄ : List ℕ) (untwists : s₄ ≡ tab k (untwisted N (drop N s₃)) ++ drop k s₃) where
          pub front_is : take k s₄ ≡ tab k (untwisted N (sums (inverse (root_of K)) (quotients N K (take N d) (drop (2 * N) d))))
          unfolding untwisted E Q
          front_is =
              ap (take k) untwists
              ∙ take_at (tab k (untwisted N (drop N s₃))) _ k (tab_length k _)
              ∙ tab_ext k _ _ (λ i l. ap (λ (x : ℕ). difference 0 (product x (power (psi N) (N - i)))) (get_or-drop N s₃ i 0 ∙ entry s₃ E back_is E_length i (omega arith)))

          pub rest_is : drop (2 * N) s₄ ≡ drop (2 * N) d
          rest_is =
              ap (drop (2 * N)) untwists
              ∙ ap (λ (m : ℕ). drop m (tab k (untwisted N (drop N s₃)) ++ drop k s₃)) {x = 2 * N} {y = length (tab k (untwisted N (drop N s₃))) + (2 * N - k)} (omega (arith, tab_length k (untwisted N (drop N s₃)), few, room.K_fits))
              ∙ drop-append-add (tab k (untwisted N (drop N s₃))) (drop k s₃) (2 * N - k)
              ∙ drop-drop (2 * N - k) k s₃
              ∙ ap (λ (m : ℕ). drop m s₃) {x = k + (2 * N - k)} {y = 2 * N} (omega (arith, few, room.K_fits))
              ∙ behind s₃ E back_is E_length (2 * N) (omega (arith, room.K_fits))
