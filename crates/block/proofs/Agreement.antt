-- Two messages of k symbols whose code words agree in k or more distinct positions are equal: why a decoded message is never another one.
-- Assumes nothing.
use mathlib.Core.Path.{◌≡◌, refl, sym, ap, ◌∙◌}
use mathlib.Core.Bool.{Bool, cond}
use mathlib.Core.List.{List}
use Prim.Native.Nat.{ℕ, ◌+◌, ◌%◌, ◌<◌, ◌≤◌}
use native.Mathlib.Nat.{le_of_eq}
use native.Mathlib.Omega.{arith}
use borrow.Author.Tests.{eqb-true, eq-eqb}
use lib.Dec.{eqb}
use lib.ListN.{length, get_or}
use Rattle.field.specs.Congruence.{◌≈◌}
use Rattle.limits.specs.Shape.{longest}
use Rattle.poly.specs.Distinct.{Distinct}
use Rattle.lists.specs.Every.{Every}
use Rattle.poly.specs.Sum.{total}
use Rattle.poly.specs.Value.{value}
use Rattle.poly.proofs.Counting.{unique_among}
use Rattle.lists.proofs.Every.{every_map}
use Rattle.poly.proofs.Sieve.{sieve, sieve_true, sieve_distinct, sieve_length}
use Rattle.poly.proofs.Sum.{total_ext, total_zero}
use Rattle.poly.proofs.Symbols.{symbols_every}
use Rattle.code.specs.Code.{symbol_of}
use Rattle.code.specs.Decoding.{points_of}
use Rattle.code.specs.Meeting.{polynomial_of, message_of}
use Rattle.code.specs.Message.{IsMessage}
use Rattle.code.specs.Positions.{Inside}
use Rattle.code.specs.Repeats.{Apart}
use Rattle.code.proofs.Meeting.{message_polynomial, polynomial_long, polynomial_symbols}
use Rattle.code.proofs.Points.{points_length, points_at, points_apart}

-- in how many of the positions two code words differ
unfoldable pub differing : ℕ → List ℕ → List ℕ → List ℕ → ℕ
differing n s t positions =
    total (length positions) (λ j. cond (eqb (symbol_of n s (get_or positions j 0)) (symbol_of n t (get_or positions j 0))) 0 1)

-- two messages have the same value at a point
same : List ℕ → List ℕ → ℕ → Bool
same s t x = eqb (value (polynomial_of s) x % 65537) (value (polynomial_of t) x % 65537)

-- the points of the positions in which two code words agree
agreed : ℕ → List ℕ → List ℕ → List ℕ → List ℕ
agreed n s t positions = sieve (same s t) (points_of (length positions) n positions)

agreed_length : (n : ℕ) (s t positions : List ℕ) → length (agreed n s t positions) + differing n s t positions ≡ length positions
unfolding agreed differing symbol_of same
agreed_length n s t positions =
    ap (length (sieve (same s t) points) +◌)
    (total_ext (length positions) _ _ (λ j l. ap (λ (x : ℕ). cond (same s t x) 0 1) (sym (points_at (length positions) n positions j l)))
    ∙ ap (λ (m : ℕ). total m (λ j. cond (same s t (get_or points j 0)) 0 1)) (sym long))
    ∙ sieve_length (same s t) points
    ∙ long
  where
    points : List ℕ
    points = points_of (length positions) n positions

    long : length points ≡ length positions
    long = points_length (length positions) n positions

agreed_values : (n : ℕ) (s t positions : List ℕ) → Every (λ x. value (polynomial_of s) x ≈ value (polynomial_of t) x) (agreed n s t positions)
unfolding agreed same
agreed_values n s t positions = every_map (λ x e. record { mods = eqb-true _ _ e }) _ (sieve_true (same s t) _)

module _ (k n : ℕ) (s t positions : List ℕ) (short : n ≤ longest) (is : IsMessage k s) (it : IsMessage k t) (inside : Inside n positions)
    (apart : Apart positions) where
  agreed_distinct : Distinct (agreed n s t positions)
  unfolding agreed
  agreed_distinct = sieve_distinct (same s t) _ (points_apart (length positions) n positions short (le_of_eq refl) inside apart)

  pub few_differ : differing n s t positions + k ≤ length positions → s ≡ t
  few_differ few =
      sym (message_polynomial s)
      ∙ ap message_of
      (unique_among (agreed n s t positions) (polynomial_of s) (polynomial_of t)
      (polynomial_long k s is ∙ sym (polynomial_long k t it))
      (omega (arith, agreed_length n s t positions, polynomial_long k s is))
      agreed_distinct
      (symbols_every _ (polynomial_symbols k s is))
      (symbols_every _ (polynomial_symbols k t it))
      (agreed_values n s t positions))
      ∙ message_polynomial t

  pub never_agree : k ≤ length positions
      → ((j : ℕ) → j < length positions → symbol_of n s (get_or positions j 0) ≡ symbol_of n t (get_or positions j 0)) → s ≡ t
  unfolding differing
  never_agree enough agree = few_differ (omega (arith, none))
    where
      none : differing n s t positions ≡ 0
      none =
          total_ext (length positions) _ (λ j. 0) (λ j l. ap (λ (b : Bool). cond b 0 1) (eq-eqb _ _ (agree j l)))
          ∙ total_zero (length positions)
