-- What the cells hold after each step of the preparation, up to what it promises.
-- Assumes nothing.
use mathlib.Core.Path.{◌≡◌, refl, sym, ap, ap₂, ◌∙◌}
use mathlib.Core.List.{List, [], ◌++◌, append-nil, append_assoc}
use Prim.Native.Nat.{ℕ, ◌+◌, ◌-◌, ◌*◌, ◌<◌, ◌≤◌}
use native.Mathlib.Nat.{le_of_eq}
use native.Mathlib.Omega.{arith}
use lib.ListN.{length, get_or, take, drop, replicate, length-append, length-drop, length-replicate, get_or-replicate, drop_of_length-le, get_or-append}
use lib.Seq.{length-take-le, take_at, drop_at, take-append-le, drop-append-add, drop-drop, get_or-take, get_or-drop, ext_get_or}
use Rattle.field.specs.Field.{power}
use Rattle.field.specs.Size.{size_of}
use Rattle.lists.specs.Tab.{tab}
use Rattle.lists.proofs.Tab.{tab_length}
use Rattle.lists.specs.Part.{part}
use Rattle.decode_between.specs.Between.{psi}
use Rattle.decode_missing.specs.Missing.{missing_points}
use Rattle.decode_missing.proofs.Laying.{unmarked_le}

zeros_taken : (m n : ℕ) → m ≤ n → take m (replicate {A = ℕ} n 0) ≡ replicate m 0
zeros_taken m n l =
    ext_get_or 0 _ _ (long ∙ sym (length-replicate {A = ℕ} m 0)) (λ i k.
    get_or-take m (replicate n 0) i 0 (omega (arith, long))
    ∙ get_or-replicate n i 0 0 (omega (arith, long))
    ∙ sym (get_or-replicate m i 0 0 (omega (arith, long))))
  where
    long : length (take m (replicate {A = ℕ} n 0)) ≡ m
    long = length-take-le m (replicate n 0) (omega (arith, length-replicate {A = ℕ} n 0))

-- The beginning: the powers laid behind, the front cleared

module _ (N : ℕ) (d : List ℕ) (long : length d ≡ 4 * N) where
  module _ (twist : ℕ) (is_psi : twist ≡ psi N) (p : List ℕ) (powers : p ≡ tab (length (take (length d - 3 * N) (drop (3 * N) d))) (power twist)) where
    abbrev pub laid : List ℕ
    laid = take (3 * N) d ++ (p ++ drop (length d - 3 * N) (drop (3 * N) d))

    p_is : p ≡ tab N (power (psi N))
    p_is =
        powers
        ∙ ap₂ (λ (m x : ℕ). tab m (power x)) (length-take-le (length d - 3 * N) (drop (3 * N) d) (omega (arith, length-drop (3 * N) d)) ∙ rest) is_psi
      where
        rest : length d - 3 * N ≡ N
        rest = omega (arith, long)

    none : drop (length d - 3 * N) (drop (3 * N) d) ≡ []
    none = drop_of_length-le (drop (3 * N) d) {i = length d - 3 * N} (omega (arith, length-drop (3 * N) d))

    laid_is : laid ≡ take (3 * N) d ++ tab N (power (psi N))
    laid_is = ap₂ (λ (x y : List ℕ). take (3 * N) d ++ (x ++ y)) p_is none ∙ ap (take (3 * N) d ++◌) (append-nil (tab N (power (psi N))))

    front_long : length (take (3 * N) d) ≡ 3 * N
    front_long = length-take-le (3 * N) d (omega (arith, long))

    pub laid_long : length laid ≡ length d
    laid_long = ap length laid_is ∙ length-append (take (3 * N) d) _ ∙ omega (arith, front_long, tab_length N (power (psi N)), long)

    laid_powers : drop (3 * N) laid ≡ tab N (power (psi N))
    laid_powers = ap (drop (3 * N)) laid_is ∙ drop_at (take (3 * N) d) _ (3 * N) front_long

    laid_marks : part (2 * N) N laid ≡ part (2 * N) N d
    laid_marks =
        ext_get_or 0 _ _ (ap (λ (m : ℕ). m) (both laid laid_long ∙ sym (both d refl))) (λ i l. at i (omega (arith, both laid laid_long)))
      where
        both : (s : List ℕ) → length s ≡ length d → length (part (2 * N) N s) ≡ N
        both s same = length-take-le N (drop (2 * N) s) (omega (arith, length-drop (2 * N) s, same, long))

        at : (i : ℕ) → i < N → get_or (part (2 * N) N laid) i 0 ≡ get_or (part (2 * N) N d) i 0
        at i l =
            get_or-take N (drop (2 * N) laid) i 0 l
            ∙ get_or-drop (2 * N) laid i 0
            ∙ ap (λ (s : List ℕ). get_or s (2 * N + i) 0) laid_is
            ∙ get_or-append (take (3 * N) d) _ 0 (2 * N + i) (omega (arith, front_long))
            ∙ get_or-take (3 * N) d (2 * N + i) 0 (omega arith)
            ∙ sym (get_or-take N (drop (2 * N) d) i 0 l ∙ get_or-drop (2 * N) d i 0)

    module _ (e : List ℕ) (cleared : e ≡ replicate (length (take (2 * N - 0) laid)) 0) where
      abbrev pub clean : List ℕ
      clean = e ++ drop (2 * N - 0) laid

      e_is : e ≡ replicate (2 * N) 0
      e_is =
          cleared
          ∙ ap (λ (m : ℕ). replicate {A = ℕ} m 0) (length-take-le (2 * N - 0) laid (omega (arith, laid_long, long)) ∙ twice)
        where
          twice : 2 * N - 0 ≡ 2 * N
          twice = omega arith

      e_long : length e ≡ 2 * N
      e_long = ap length e_is ∙ length-replicate {A = ℕ} (2 * N) 0

      clean_rest : (m : ℕ) → 2 * N ≤ m → drop m clean ≡ drop m laid
      clean_rest m l =
          ap (λ (x : ℕ). drop x clean) {x = m} {y = length e + (m - 2 * N)} (omega (arith, e_long))
          ∙ drop-append-add e (drop (2 * N - 0) laid) (m - 2 * N)
          ∙ drop-drop (m - 2 * N) (2 * N - 0) laid
          ∙ ap (λ (x : ℕ). drop x laid) {x = 2 * N - 0 + (m - 2 * N)} {y = m} (omega arith)

      clean_long : length clean ≡ 4 * N
      clean_long = length-append e _ ∙ omega (arith, e_long, length-drop (2 * N - 0) laid, laid_long, long)

      pub missing_asked : N ≡ size_of N → (length clean ≡ 4 * N) × (N ≡ size_of N) × (take N clean ≡ replicate N 0)
      missing_asked power_of_two = (
        clean_long,
        power_of_two,
        take-append-le N e _ (omega (arith, e_long)) ∙ ap (take N) e_is ∙ zeros_taken N (2 * N) (omega arith),
      )

      marks_are : take N (drop (2 * N) clean) ≡ take N (drop (2 * N) d)
      marks_are = ap (take N) (clean_rest (2 * N) (le_of_eq refl)) ∙ laid_marks

      module _ (r : ℕ) (s : List ℕ) (count : r ≡ length (missing_points N (take N (drop (2 * N) clean)))) (points : s ≡ replicate (N - r) 0 ++ (missing_points N (take N (drop (2 * N) clean)) ++ drop N clean)) where
        pub begun_count : r ≡ length (missing_points N (take N (drop (2 * N) d)))
        begun_count = count ∙ ap (λ (m : List ℕ). length (missing_points N m)) marks_are

        s_is : s ≡ (replicate (N - r) 0 ++ missing_points N (take N (drop (2 * N) d))) ++ drop N clean
        s_is =
            points
            ∙ ap (λ (m : List ℕ). replicate (N - r) 0 ++ (missing_points N m ++ drop N clean)) marks_are
            ∙ sym (append_assoc (replicate (N - r) 0) (missing_points N (take N (drop (2 * N) d))) (drop N clean))

        s_front_long : length (replicate (N - r) 0 ++ missing_points N (take N (drop (2 * N) d))) ≡ N
        s_front_long =
            length-append (replicate (N - r) 0) _
            ∙ omega (arith, length-replicate {A = ℕ} (N - r) 0, begun_count, unmarked_le N (take N (drop (2 * N) d)) N)

        pub begun_front : take N s ≡ replicate (N - r) 0 ++ missing_points N (take N (drop (2 * N) d))
        begun_front = ap (take N) s_is ∙ take_at _ (drop N clean) N s_front_long

        pub begun_powers : drop (3 * N) s ≡ tab N (power (psi N))
        begun_powers =
            ap (drop (3 * N)) s_is
            ∙ ap (λ (m : ℕ). drop m ((replicate (N - r) 0 ++ missing_points N (take N (drop (2 * N) d))) ++ drop N clean)) {x = 3 * N} {y = length (replicate (N - r) 0 ++ missing_points N (take N (drop (2 * N) d))) + 2 * N} (omega (arith, s_front_long))
            ∙ drop-append-add (replicate (N - r) 0 ++ missing_points N (take N (drop (2 * N) d))) (drop N clean) (2 * N)
            ∙ drop-drop (2 * N) N clean
            ∙ ap (λ (m : ℕ). drop m clean) {x = N + 2 * N} {y = 3 * N} (omega arith)
            ∙ clean_rest (3 * N) (omega arith)
            ∙ laid_powers
