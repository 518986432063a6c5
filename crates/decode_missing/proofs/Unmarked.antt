-- The missing points: each is that of a position without a mark, they are distinct, and the product over them is 0 there and nowhere else.
-- Assumes nothing.
use mathlib.Core.Path.{◌≡◌, refl, sym, ap, ◌∙◌}
use mathlib.Core.Bool.{Bool, true, false, cond}
use mathlib.Core.List.{List, [], ◌∷◌, ◌++◌}
use mathlib.Core.Logic.{inl, inr}
use Prim.Native.Nat.{ℕ, zero, suc, ◌+◌, ◌*◌, ◌^◌, ◌<◌, ◌≤◌, suc-le-suc}
use native.Mathlib.Decide.{dec_le}
use native.Mathlib.Nat.{not-suc-le-zero, eq-or-lt_of_le, le_of_suc-le-suc, pow-suc}
use native.Mathlib.Omega.{arith}
use borrow.Author.Tests.{eqb-true, eq-eqb}
use lib.Dec.{eqb}
use lib.ListN.{length, get_or, replicate, length-append, length-replicate}
use Rattle.field.specs.Congruence.{◌≈◌}
use Rattle.field.specs.Points.{root_of, point_of}
use Rattle.field.specs.Roots.{root}
use Rattle.field.specs.Size.{level_of, size_of}
use Rattle.field.proofs.Congruence.{≈-of, ≈-sym, ◌∘≈◌, ◌+≈◌, ◌·≈◌, pow-≈, comb}
use Rattle.field.proofs.Powers.{full_power}
use Rattle.field.proofs.Ring.{power-≈}
use Rattle.field.proofs.Roots.{root_full}
use Rattle.field.proofs.Sizes.{level_le, level_size, size_power}
use Rattle.poly.specs.Distinct.{Distinct}
use Rattle.lists.specs.Every.{Every}
use Rattle.poly.specs.Products.{vanishing}
use Rattle.poly.specs.Value.{value}
use Rattle.poly.proofs.Counting.{vanishing_is_zero}
use Rattle.lists.proofs.Every.{every_map, every_append}
use Rattle.poly.proofs.Products.{times_value, vanishing_apart}
use Rattle.poly.proofs.Values.{value_append, value_zeros}
use Rattle.code.proofs.Points.{point_one}
use Rattle.decode_missing.specs.Missing.{unmarked}

pub distinct_append : (xs ys : List ℕ) → Distinct xs → Distinct ys → Every (λ x. Every (λ y. ¬ (y ≈ x)) ys) xs → Distinct (xs ++ ys)
unfolding Distinct Every
distinct_append [] ys hx hy apart = hy
distinct_append (x ∷ xs) ys hx hy apart = (every_append _ xs ys hx.0 apart.0, distinct_append xs ys hx.1 hy apart.1)

-- X^N - 1, N being n + 1, as few-roots needs it
unit_roots : ℕ → List ℕ
unit_roots n = 65536 ∷ (replicate n 0 ++ (1 ∷ []))

unit_roots_length : (n : ℕ) → length (unit_roots n) ≡ suc (suc n)
unfolding unit_roots
unit_roots_length n = ap suc (length-append (replicate n 0) (1 ∷ []) ∙ omega (arith, length-replicate {A = ℕ} n 0))

last_power : (n x : ℕ) → value (replicate n 0 ++ (1 ∷ [])) x ≡ x ^ n
unfolding value
last_power n x = value_append (replicate n 0) (1 ∷ []) x ∙ rw (value_zeros n x, length-replicate {A = ℕ} n 0) (omega arith)

unit_roots_value : (n x : ℕ) → value (unit_roots n) x ≡ 65536 + x ^ suc n
unfolding unit_roots value
unit_roots_value n x = omega (arith, ap (x *◌) (last_power n x), pow-suc x n)

-- no more than N distinct numbers have the power N = 1
pub few_roots : (n : ℕ) (xs : List ℕ) → Distinct xs → Every (λ x. x ^ suc n ≈ 1) xs → length xs ≤ suc n
unfolding Every unit_roots
few_roots n xs apart ones =
    elim (dec_le (length xs) (suc n)) [
      | yes le ↦ le
      | no gt ↦ absurd (omega (arith, (none gt).0.mods))
    ]
  where
    none : ¬ (length xs ≤ suc n) → Every (◌≈ 0) (unit_roots n)
    none gt =
        vanishing_is_zero xs (unit_roots n) (omega (arith, unit_roots_length n)) apart
        (every_map (λ x one. ≈-of (unit_roots_value n x) ∘≈ comb one 0 1 (omega arith)) xs ones)

-- the point of a position below b that has no mark
abbrev pub Unmarked : ℕ → List ℕ → ℕ → ℕ → Type 0
Unmarked N marks b z = (j : ℕ) × (j < b) × (z ≡ point_of N j) × (get_or marks j 0 ≡ 0)

module _ (n : ℕ) where
  pub point_full : (j : ℕ) → point_of (size_of n) j ^ (size_of n) ≈ 1
  unfolding point_of root_of
  point_full j =
      pow-≈ (power-≈ (root (level_of (size_of n))) j) (size_of n)
      ∘≈ full_power (root (level_of (size_of n))) (size_of n) j full
    where
      full : root (level_of (size_of n)) ^ size_of n ≈ 1
      full = rw (level_size n, size_power n) (root_full (level_of n) (suc-le-suc (level_le n)))

  module _ (marks : List ℕ) where
    later : (b z : ℕ) → Unmarked (size_of n) marks b z → Unmarked (size_of n) marks (suc b) z
    later b z (j, l, is, none) = (j, omega arith, is, none)

    pub unmarked_every : (b : ℕ) → Every (Unmarked (size_of n) marks b) (unmarked (size_of n) marks b)
    unfolding Every unmarked
    unmarked_every zero = tt
    unmarked_every (suc b) = at (eqb (get_or marks b 0) 0) refl (every_map (later b) (unmarked (size_of n) marks b) (unmarked_every b))
      where
        at : (t : Bool) → eqb (get_or marks b 0) 0 ≡ t → Every (Unmarked (size_of n) marks (suc b)) (unmarked (size_of n) marks b)
            → Every (Unmarked (size_of n) marks (suc b)) (cond t (point_of (size_of n) b ∷ unmarked (size_of n) marks b) (unmarked (size_of n) marks b))
        at true is rest = ((b, omega arith, refl, eqb-true _ _ is), rest)
        at false is rest = rest

    pub unmarked_distinct : (b : ℕ) → b ≤ (size_of n) → Distinct (unmarked (size_of n) marks b)
    unfolding Distinct unmarked
    unmarked_distinct zero l = tt
    unmarked_distinct (suc b) l =
        at (eqb (get_or marks b 0) 0) (every_map (λ z u same. earlier z u same) (unmarked (size_of n) marks b) (unmarked_every b)) (unmarked_distinct b (omega arith))
      where
        earlier : (z : ℕ) → Unmarked (size_of n) marks b z → ¬ (z ≈ point_of (size_of n) b)
        earlier z (j, less, is, none) same = absurd (omega (arith, point_one n j b (omega arith) (omega arith) (≈-of (sym is) ∘≈ same)))

        at : (t : Bool) → Every (λ z. ¬ (z ≈ point_of (size_of n) b)) (unmarked (size_of n) marks b) → Distinct (unmarked (size_of n) marks b)
            → Distinct (cond t (point_of (size_of n) b ∷ unmarked (size_of n) marks b) (unmarked (size_of n) marks b))
        at true apart rest = (apart, rest)
        at false apart rest = rest

    -- the product is 0 at the missing points
    pub unmarked_zero : (b j : ℕ) → j < b → get_or marks j 0 ≡ 0 → value (vanishing (unmarked (size_of n) marks b)) (point_of (size_of n) j) ≈ 0
    unmarked_zero zero j l none = absurd (not-suc-le-zero l)
    unmarked_zero (suc b) j l none =
        elim (eq-or-lt_of_le (le_of_suc-le-suc l)) [
          | inl is ↦ here b j is none
          | inr less ↦ there b j (eqb (get_or marks b 0) 0) refl (unmarked_zero b j less none)
        ]
      where
        here : (b j : ℕ) → j ≡ b → get_or marks j 0 ≡ 0 → value (vanishing (unmarked (size_of n) marks (suc b))) (point_of (size_of n) j) ≈ 0
        here b j is none =
            unfold unmarked vanishing in
            rw (is, eq-eqb (get_or marks b 0) 0 (ap (λ (i : ℕ). get_or marks i 0) (sym is) ∙ none))
            (comb (times_value (1 ∷ []) (unmarked (size_of n) marks b) (point_of (size_of n) b) (point_of (size_of n) b)) 0 0 (omega arith))

        there : (b j : ℕ) (t : Bool) → eqb (get_or marks b 0) 0 ≡ t → value (vanishing (unmarked (size_of n) marks b)) (point_of (size_of n) j) ≈ 0
            → value (vanishing (unmarked (size_of n) marks (suc b))) (point_of (size_of n) j) ≈ 0
        there b j true is rest =
            unfold unmarked vanishing in
            rw is
            (comb (times_value (1 ∷ []) (unmarked (size_of n) marks b) (point_of (size_of n) b) (point_of (size_of n) j) +≈ point_of (size_of n) j ·≈ rest +≈ ≈-sym (point_of (size_of n) b ·≈ rest)) 0 0 (omega arith))
        there b j false is rest = unfold unmarked in rw is rest

    -- and not at the others
    pub unmarked_apart : (j : ℕ) → j < (size_of n) → ¬ (get_or marks j 0 ≡ 0) → ¬ (value (vanishing (unmarked (size_of n) marks (size_of n))) (point_of (size_of n) j) ≈ 0)
    unmarked_apart j l marked =
        vanishing_apart (unmarked (size_of n) marks (size_of n)) (point_of (size_of n) j) (every_map (λ z u same. other z u same) (unmarked (size_of n) marks (size_of n)) (unmarked_every (size_of n)))
      where
        other : (z : ℕ) → Unmarked (size_of n) marks (size_of n) z → ¬ (z ≈ point_of (size_of n) j)
        other z (i, less, is, none) same =
            marked (ap (λ (x : ℕ). get_or marks x 0) (sym (point_one n i j less l (≈-of (sym is) ∘≈ same))) ∙ none)
