-- From the coefficients of M to its values at the N points and to the inverses at the points between, and where nothing is missing that M is 1.
-- Assumes nothing.
use mathlib.Core.Path.{◌≡◌, refl, sym, ap, subst, ◌∙◌}
use mathlib.Core.Bool.{false}
use mathlib.Core.List.{List, [], ◌∷◌, ◌++◌, append_assoc}
use Prim.Native.Nat.{ℕ, zero, suc, ◌+◌, ◌-◌, ◌*◌, ◌%◌, ◌^◌, ◌<◌, ◌≤◌}
use native.Mathlib.Omega.{arith}
use lib.ListN.{length, get_or, take, drop, replicate, length-append, length-drop, length-replicate, take-append-drop}
use lib.Pow.{pow_pos, pow_mono}
use lib.Seq.{length-take-le, take_at, drop_at, drop-append-add, drop-drop, get_or-take}
use Rattle.field.specs.Congruence.{◌≈◌}
use Rattle.field.specs.Field.{product, power, inverse}
use Rattle.field.specs.Points.{root_of, point_of}
use Rattle.limits.specs.Shape.{bad_shape}
use Rattle.field.specs.Size.{level_of, size_of}
use Rattle.field.specs.Symbol.{Symbols}
use Rattle.field.proofs.Congruence.{≈-refl, ≈-of, ≈-sym, ◌∘≈◌, mul-≈, mod-≈}
use Rattle.field.proofs.Fermat.{inverse-≈, no_divisors}
use Rattle.field.proofs.Ring.{product-≈, power-≈, power_lt}
use Rattle.limits.proofs.Shape.{shape_good, size_le, level_twice}
use Rattle.field.proofs.Sizes.{size_size}
use Rattle.lists.specs.Every.{Every}
use Rattle.poly.specs.Products.{times, vanishing}
use Rattle.lists.specs.Tab.{tab}
use Rattle.poly.specs.Value.{value}
use Rattle.lists.proofs.Every.{every_map}
use Rattle.poly.proofs.Products.{vanishing_symbols}
use Rattle.poly.proofs.Symbols.{symbols_at, append_symbols}
use Rattle.lists.proofs.Tab.{tab_at, tab_ext}
use Rattle.poly.proofs.Values.{value-≈, value_append, value_zeros}
use Rattle.transform_halving.specs.Transform.{transform_of}
use Rattle.transform_halving.proofs.Sums.{values}
use Rattle.transform_halving.proofs.Undo.{transform_values}
use Rattle.lists.specs.Part.{part}
use Rattle.decode_between.specs.Between.{psi, between, values_between}
use Rattle.decode_between.specs.Foldable.{PsiTable, Foldable}
use Rattle.decode_between.proofs.Between.{between_apart}
use Rattle.decode_between.proofs.Foldable.{size_N, size_K, levels}
use Rattle.decode_divide.specs.Quotients.{InversesBetween}
use Rattle.decode_missing.specs.Missing.{missing_points}
use Rattle.decode_missing.specs.Weights.{weights}
use Rattle.decode_missing.proofs.Unmarked.{Unmarked, unmarked_every, point_full}
use Rattle.decode_prepare.specs.Prepared.{Prepared}
use Rattle.decode_prepare.proofs.Multiplying.{zeros_symbols}

-- s holds M's coefficients, and zeros behind them
ones_tab : (n : ℕ) → replicate n 1 ≡ tab n (λ i. 1)
unfolding tab
ones_tab zero = refl
ones_tab (suc n) = ap (1 ∷◌) (ones_tab n)

module _ (N p : ℕ) (zs s : List ℕ) (is : s ≡ vanishing zs ++ replicate p 0) where
  value_is : (x : ℕ) → value s x ≡ value (vanishing zs) x
  value_is x = ap (λ (l : List ℕ). value l x) is ∙ value_append (vanishing zs) (replicate p 0) x ∙ rw (value_zeros p x) (omega arith)

  pub weights_are : length s ≡ N → transform_of s ≡ weights N zs
  weights_are long =
      transform_values s
      ∙ ap (λ (m : ℕ). values (root_of m) m s) long
      ∙ (unfold values weights point_of in tab_ext N _ _ (λ j l.
      (≈-of (value_is (root_of N ^ j)) ∘≈ value-≈ (vanishing zs) (≈-sym (power-≈ (root_of N) j))).mods))

  pub product_symbols : Symbols s
  product_symbols =
      subst Symbols (sym is) (append_symbols (vanishing zs) (replicate p 0) (symbols_at (vanishing zs) (vanishing_symbols zs)) (zeros_symbols p))

  -- an inverse, in the order in which it is worked out
  module _ (K : ℕ) (cells : List ℕ) (room : Foldable N K cells) (full : Every (λ z. z ^ N ≈ 1) zs) where
    not_zero : (m e : ℕ) → m ≡ 2 ^ e → e < 16 → ¬ (m ≈ 0)
    not_zero m e power_of_two few none = absurd (omega (arith, none.mods, power_of_two, pow_pos e, pow_mono {i = e} {j = 15} (omega arith)))

    M : ℕ → ℕ
    M i = value (vanishing zs) (between N K i)

    factor_not_zero : (i : ℕ) → ¬ (N * K * M i ≈ 0)
    unfolding M
    factor_not_zero i none =
        between_apart N K (level_of N) (level_of K) (size_N N cells room.table) refl (size_K N K cells room) refl (levels N K cells room) room.table.N_root i zs full
        (no_divisors (N * K) (M i) none (λ both.
        not_zero K (level_of K) (size_K N K cells room) (omega (arith, levels N K cells room, room.table.N_root))
        (no_divisors N K both (not_zero N (level_of N) (size_N N cells room.table) room.table.N_root))))

    worked : ℕ → ℕ
    worked i = product (product N K) (get_or (values_between N K s) i 0)

    worked-≈ : (i : ℕ) → i < K → worked i ≈ N * K * M i
    unfolding worked M values_between
    worked-≈ i l =
        product-≈ (product N K) _
        ∘≈ mul-≈ (product-≈ N K) (≈-of (tab_at K _ i l) ∘≈ mod-≈ _ ∘≈ ≈-of (value_is (between N K i)))

    pub inverse_there : (i : ℕ) → i < K → N * K * value (vanishing zs) (between N K i) * inverse (product (product N K) (get_or (values_between N K s) i 0)) ≈ 1
    unfolding worked M
    inverse_there i l =
        mul-≈ (≈-sym (worked-≈ i l)) (≈-refl {a = inverse (worked i)})
        ∘≈ inverse-≈ (worked i) (λ none. factor_not_zero i (≈-sym (worked-≈ i l) ∘≈ none))

-- What the preparation promises, over N and K
abbrev Holds : ℕ → List ℕ → List ℕ → ℕ → ℕ → Type 0
Holds count d cells N K =
    (count ≡ length (missing_points N (part (2 * N) N d)))
    × PsiTable N cells
    × (take N cells ≡ weights N (missing_points N (part (2 * N) N d)))
    × (0 < count → InversesBetween N K (missing_points N (part (2 * N) N d)) (drop (2 * N) cells))

-- N and K as the calls give them, and the cells after the beginning
module _ (k n : ℕ) (d : List ℕ) (shape : bad_shape k n ≡ false) (long : length d ≡ 4 * size_of n) (some : length (missing_points (size_of n) (part (2 * size_of n) (size_of n) d)) < size_of n) (N K : ℕ) (N-is : N ≡ size_of n) (K-is : K ≡ size_of k) where
  prepared : (count : ℕ) (cells : List ℕ) → Holds count d cells N K → Prepared k n (part (2 * size_of n) (size_of n) d) count cells
  prepared count cells h =
      let all = subst (λ (x : ℕ). Holds count d cells x (size_of k)) N-is (subst (Holds count d cells N) K-is h) in
      record { counted = all.0; table = all.1; weighs = all.2; inverses = all.3 }

  pub power_of_two : N ≡ size_of N
  power_of_two = N-is ∙ size_size n ∙ ap size_of (sym N-is)

  pub root_there : level_of N < 16
  root_there = rw N-is (level_twice n (shape_good k n shape).2)

  K_power_of_two : K ≡ size_of K
  K_power_of_two = K-is ∙ size_size k ∙ ap size_of (sym K-is)

  K_fits : K ≤ N
  K_fits = omega (arith, K-is, N-is, size_le k n shape)

  pub long_N : length d ≡ 4 * N
  long_N = long ∙ ap (4 *◌) (sym N-is)

  zs : List ℕ
  zs = missing_points N (part (2 * N) N d)

  few : length zs < N
  unfolding zs
  few = subst (λ (x : ℕ). length (missing_points x (part (2 * x) x d)) < x) (sym N-is) some

  full : Every (λ z. z ^ N ≈ 1) zs
  unfolding zs
  full = subst (λ (x : ℕ). Every (λ z. z ^ x ≈ 1) (missing_points x (part (2 * x) x d))) (sym N-is) there
    where
      there : Every (λ z. z ^ size_of n ≈ 1) (missing_points (size_of n) (part (2 * size_of n) (size_of n) d))
      there = every_map (λ z u. at z u) _ (unmarked_every n (part (2 * size_of n) (size_of n) d) (size_of n))
        where
          at : (z : ℕ) → Unmarked (size_of n) (part (2 * size_of n) (size_of n) d) (size_of n) z → z ^ size_of n ≈ 1
          at z (j, l, is, free) = rw is (point_full n j)

  points_symbols : Symbols zs
  unfolding zs
  points_symbols = symbols_at zs (every_map (λ z u. at z u) zs (subst (λ (x : ℕ). Every (Unmarked x (part (2 * x) x d) x) (missing_points x (part (2 * x) x d))) (sym N-is) (unmarked_every n (part (2 * size_of n) (size_of n) d) (size_of n))))
    where
      at : (z : ℕ) → Unmarked N (part (2 * N) N d) N z → z < 65537
      at z (j, l, is, free) = unfold point_of in rw is (power_lt (root_of N) j)

  -- s is what the beginning leaves
  module _ (r : ℕ) (s : List ℕ) (s_long : length s ≡ length d) (count : r ≡ length (missing_points N (part (2 * N) N d))) (front : take N s ≡ replicate (N - r) 0 ++ missing_points N (part (2 * N) N d)) (powers : drop (3 * N) s ≡ tab N (power (psi N))) where
    table_of : (t : List ℕ) → length t ≡ length d → drop (3 * N) t ≡ drop (3 * N) s → PsiTable N t
    table_of t same back = record { long = same ∙ long_N; N_power = power_of_two; N_root = root_there; powers = back ∙ powers }

    -- where nothing is missing

    module _ (all : r ≡ 0) (e : List ℕ) (ones : e ≡ replicate (length (take (N - 0) s)) 1) where
      abbrev pub filled : List ℕ
      filled = e ++ drop (N - 0) s

      e_is : e ≡ replicate N 1
      e_is = ones ∙ ap (λ (m : ℕ). replicate m 1) (length-take-le (N - 0) s (omega (arith, s_long, long_N)) ∙ plain)
        where
          plain : N - 0 ≡ N
          plain = omega arith

      e_long : length e ≡ N
      e_long = ap length e_is ∙ length-replicate {A = ℕ} N 1

      filled_long : length filled ≡ length d
      filled_long = length-append e _ ∙ omega (arith, e_long, length-drop (N - 0) s, s_long, long_N)

      filled_back : drop (3 * N) filled ≡ drop (3 * N) s
      filled_back =
          ap (λ (m : ℕ). drop m filled) {x = 3 * N} {y = length e + 2 * N} (omega (arith, e_long))
          ∙ drop-append-add e (drop (N - 0) s) (2 * N)
          ∙ drop-drop (2 * N) (N - 0) s
          ∙ ap (λ (m : ℕ). drop m s) {x = N - 0 + 2 * N} {y = 3 * N} (omega arith)

      no_weights : (z : List ℕ) → length z ≡ 0 → replicate N 1 ≡ weights N z
      no_weights [] none = ones_tab N ∙ unfold weights vanishing times value in tab_ext N _ _ (λ j l. sym (ap (◌% 65537) {y = 1} (omega arith)))
      no_weights (z ∷ zs) none = absurd (omega arith)

      pub nothing_missing : Prepared k n (part (2 * size_of n) (size_of n) d) 0 filled
      nothing_missing =
          prepared 0 filled (
            sym all ∙ count,
            table_of filled filled_long filled_back,
            take_at e (drop (N - 0) s) N e_long ∙ e_is ∙ no_weights (missing_points N (part (2 * N) N d)) (sym count ∙ all),
            λ more. absurd (omega arith),
          )

    -- where something is

    split_front : s ≡ replicate (N - r) 0 ++ (missing_points N (part (2 * N) N d) ++ drop N s)
    split_front =
        sym (take-append-drop N s) ∙ ap (◌++ drop N s) front ∙ append_assoc (replicate (N - r) 0) (missing_points N (part (2 * N) N d)) (drop N s)

    zeros_long : length (replicate {A = ℕ} (N - r) 0) ≡ N - r
    zeros_long = length-replicate (N - r) 0

    few_r : r < N
    unfolding zs
    few_r = rw count few

    points_there : part (N - r) r s ≡ missing_points N (part (2 * N) N d)
    points_there =
        ap (part (N - r) r) split_front
        ∙ ap (take r) (drop_at (replicate (N - r) 0) _ (N - r) zeros_long)
        ∙ take_at (missing_points N (part (2 * N) N d)) (drop N s) r (sym count)

    pub product_asked : 0 < r
        → ((length s ≡ 4 * N) × (N ≡ size_of N) × (level_of N < 16) × (0 < r) × (r < N))
        × ((take (N - r) s ≡ replicate (N - r) 0) × Symbols (part (N - r) r s))
    unfolding zs
    product_asked more = (
      (s_long ∙ long_N, power_of_two, root_there, more, few_r),
      (ap (take (N - r)) split_front ∙ take_at (replicate (N - r) 0) _ (N - r) zeros_long, subst Symbols (sym points_there) points_symbols),
    )

    -- M's coefficients in front
    module _ (s₂ : List ℕ) (long₂ : length s₂ ≡ length s) (laid : take N s₂ ≡ vanishing (part (N - r) r s) ++ replicate (N - r - 1) 0) (back₂ : drop (2 * N) s₂ ≡ drop (2 * N) s) where
      laid_is : take N s₂ ≡ vanishing (missing_points N (part (2 * N) N d)) ++ replicate (N - r - 1) 0
      laid_is = laid ∙ ap (λ (z : List ℕ). vanishing z ++ replicate (N - r - 1) 0) points_there

      powers₂ : drop (3 * N) s₂ ≡ drop (3 * N) s
      powers₂ = further s₂ ∙ ap (drop N) back₂ ∙ sym (further s)
        where
          further : (t : List ℕ) → drop (3 * N) t ≡ drop N (drop (2 * N) t)
          further t = sym (drop-drop N (2 * N) t ∙ ap (λ (m : ℕ). drop m t) {x = 2 * N + N} {y = 3 * N} (omega arith))

      pub weigh_asked : Foldable N K s₂
      weigh_asked =
          record {
            table = table_of s₂ (long₂ ∙ s_long) powers₂;
            K_power = K_power_of_two;
            K_fits = K_fits;
            symbols = product_symbols N (N - r - 1) (missing_points N (part (2 * N) N d)) (take N s₂) laid_is;
          }

      module _ (s₃ : List ℕ) (long₃ : length s₃ ≡ length s₂) (weighed : take N s₃ ≡ transform_of (take N s₂)) (inverted : take K (drop (2 * N) s₃) ≡ tab K (λ i. inverse (product (product N K) (get_or (values_between N K (take N s₂)) i 0)))) (back₃ : drop (3 * N) s₃ ≡ drop (3 * N) s₂) where
        inverse_at : (i : ℕ) → i < K → get_or (drop (2 * N) s₃) i 0 ≡ inverse (product (product N K) (get_or (values_between N K (take N s₂)) i 0))
        inverse_at i l = sym (get_or-take K (drop (2 * N) s₃) i 0 l) ∙ ap (λ (t : List ℕ). get_or t i 0) inverted ∙ tab_at K _ i l

        pub something_missing : Prepared k n (part (2 * size_of n) (size_of n) d) r s₃
        unfolding zs
        something_missing =
            prepared r s₃ (
              count,
              table_of s₃ (long₃ ∙ long₂ ∙ s_long) (back₃ ∙ powers₂),
              weighed ∙ weights_are N (N - r - 1) (missing_points N (part (2 * N) N d)) (take N s₂) laid_is (length-take-le N s₂ (omega (arith, long₂, s_long, long_N))),
              λ more.
                  record {
                    at = λ i l.
                        rw (inverse_at i l)
                        (inverse_there N (N - r - 1) (missing_points N (part (2 * N) N d)) (take N s₂) laid_is K s₂ weigh_asked full i l);
                  },
            )
