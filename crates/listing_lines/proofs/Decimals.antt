-- The digits that are counted out are those of the definition.
-- Assumes nothing.
use mathlib.Core.Path.{◌≡◌, sym, ap, subst}
use mathlib.Core.Bool.{false}
use mathlib.Core.Logic.{inl, inr}
use Prim.Native.Nat.{ℕ, zero, suc, ◌-◌, ◌^◌, ◌<◌, ◌≤◌}
use native.Mathlib.Decide.{dec_le}
use native.Mathlib.Nat.{le_trans, lt_trans, not-le_of_lt, eq-or-lt_of_le, le_of_suc-le-suc, pow-le-pow_right}
use native.Mathlib.Omega.{arith}
use borrow.Author.Tests.{lt-ltb, le-ltb}
use lib.Dec.{ltb}
use Rattle.answers.specs.First.{first}
use Rattle.answers.proofs.First.{first_here, first_all}
use Rattle.io.specs.Digits.{last_digits, IsDigitCount}
use Rattle.listing_lines.specs.Text.{places, decimal}

-- the fewest digits that hold n, one more than i
module _ (n i : ℕ) (few : suc i ≤ 20) (fewest : IsDigitCount 10 1 n (suc i)) where
  above : (k : ℕ) → k < i → ltb n (10 ^ suc k) ≡ false
  above k h =
      le-ltb n (10 ^ suc k) (le_trans (pow-le-pow_right (omega arith) h) (subst (λ (j : ℕ). 10 ^ j ≤ n) {x = suc i - 1} {y = i} (omega arith) (fewest.2 (omega arith))))

  first_fewest : first 19 (λ k. ltb n (10 ^ suc k)) ≡ i
  first_fewest =
      elim (eq-or-lt_of_le (le_of_suc-le-suc few)) [
        | inl last ↦ first_all 19 i (λ k. ltb n (10 ^ suc k)) (omega arith) (omega arith) above
        | inr earlier ↦ first_here 19 i (λ k. ltb n (10 ^ suc k)) earlier above (lt-ltb n (10 ^ suc i) fewest.1)
      ]

-- a number of the machine is below 10 to the power 20
pub few_digits : (n r : ℕ) → n < 18446744073709551616 → IsDigitCount 10 1 n r → r ≤ 20
few_digits n r low f =
    elim (dec_le r 20) [
      | yes few ↦ few
      | no many ↦ absurd (not-le_of_lt (lt_trans low (omega arith)) (le_trans (pow-le-pow_right {n = 10} (omega arith) {i = 20} {j = r - 1} (omega arith)) (f.2 (omega arith))))
    ]

places_fewest : (n r : ℕ) → r ≤ 20 → IsDigitCount 10 1 n r → r ≡ places n
unfolding places
places_fewest n zero h f = absurd (omega (arith, f.0))
places_fewest n (suc i) h f = ap suc (sym (first_fewest n i h f))

-- the digits counted out are the decimal text
pub decimal_counted : (n r : ℕ) → r ≤ 20 → IsDigitCount 10 1 n r → last_digits 10 r n ≡ decimal n
unfolding decimal
decimal_counted n r h f = ap (λ (c : ℕ). last_digits 10 c n) (places_fewest n r h f)
