-- The digits of a number give the number when they are read, and begin with none too many.
-- Assumes nothing.
use mathlib.Core.Path.{◌≡◌, refl, sym, subst, ◌∙◌}
use mathlib.Core.List.{[], ◌∷◌, ◌++◌}
use mathlib.Core.Logic.{inl, inr}
use Prim.Native.Nat.{ℕ, zero, suc, ◌+◌, ◌*◌, ◌/◌, ◌%◌, ◌^◌, ◌<◌, ◌≤◌}
use native.Mathlib.Nat.{mod-lt, div-add-mod', div-lt_iff_lt-mul, le-div_iff_mul-le, pow-suc, eq-or-lt_of_le}
use native.Mathlib.Omega.{arith}
use borrow.Author.Tests.{lt-ltb, ltb-true, ltb-false}
use lib.Dec.{ltb}
use lib.ListN.{length, get_or, length-append, get_or-append}
use Rattle.answers.specs.First.{first}
use Rattle.answers.proofs.First.{first_le, first_before, first_holds}
use Rattle.io.specs.Digits.{last_digits, hex_digit_ascii}
use Rattle.listing_lines.specs.Text.{places, decimal}
use Rattle.listing_lines.specs.Theorems.{ReadsBack, nothing, further, DecimalValue}

glyph_is : (n : ℕ) → hex_digit_ascii (n % 10) ≡ 48 + n % 10
glyph_is n = rw (lt-ltb (n % 10) 10 (mod-lt n (omega arith))) refl

count : (k n : ℕ) → length (last_digits 10 k n) ≡ k
count zero n = refl
count (suc k) n = omega (arith, length-append (last_digits 10 k (n / 10)) (hex_digit_ascii (n % 10) ∷ []), count k (n / 10))

tenth_below : (k n : ℕ) → n < 10 ^ suc k → n / 10 < 10 ^ k
tenth_below k n h = (div-lt_iff_lt-mul {k = 10} {x = n} {y = 10 ^ k} (omega arith)).1 (omega (arith, pow-suc 10 k))

digits_read : (k n : ℕ) → n < 10 ^ k → ReadsBack (last_digits 10 k n) n
digits_read zero n h = subst (ReadsBack []) {x = 0} {y = n} (omega arith) nothing
digits_read (suc k) n h =
    subst (λ (c : ℕ). ReadsBack (last_digits 10 k (n / 10) ++ (c ∷ [])) n) (sym (glyph_is n))
    (subst (ReadsBack (last_digits 10 k (n / 10) ++ ((48 + n % 10) ∷ []))) {x = 10 * (n / 10) + n % 10} {y = n} (omega (arith, div-add-mod' n 10))
    (further (n % 10) (mod-lt n (omega arith)) (digits_read k (n / 10) (tenth_below k n h))))

-- a number of suc k digits that is not below 10 to the power k
front_digit : (k n : ℕ) → n < 10 ^ suc k → 10 ^ k ≤ n → ¬ (get_or (last_digits 10 (suc k) n) 0 0 ≡ 48)
front_digit zero n h l e = omega (arith, glyph_is n)
front_digit (suc k) n h l e =
    front_digit k (n / 10) (tenth_below (suc k) n h) ((le-div_iff_mul-le {k = 10} {x = 10 ^ k} {y = n} (omega arith)).1 (omega (arith, pow-suc 10 k)))
    (sym (get_or-append (last_digits 10 (suc k) (n / 10)) (hex_digit_ascii (n % 10) ∷ []) 0 0 (omega (arith, count (suc k) (n / 10)))) ∙ e)

-- as many digits as are counted hold the number, and one less would not

below : (n i : ℕ) → first 19 (λ j. ltb n (10 ^ suc j)) ≡ i → n < 10 ^ 20 → n < 10 ^ suc i
below n i is low =
    elim (eq-or-lt_of_le (first_le 19 (λ j. ltb n (10 ^ suc j)))) [
      | inl last ↦ subst (λ (j : ℕ). n < 10 ^ suc j) {x = 19} {y = i} (sym last ∙ is) low
      | inr earlier ↦
          subst (λ (j : ℕ). n < 10 ^ suc j) is
          (ltb-true n (10 ^ suc (first 19 (λ j. ltb n (10 ^ suc j)))) (first_holds 19 (λ j. ltb n (10 ^ suc j)) earlier))
    ]

above : (n i : ℕ) → first 19 (λ j. ltb n (10 ^ suc j)) ≡ i → 0 < i → 10 ^ i ≤ n
above n zero is h = absurd (omega arith)
above n (suc i) is h = ltb-false n (10 ^ suc i) (first_before 19 (λ j. ltb n (10 ^ suc j)) i (omega arith))

pub decimal_value : DecimalValue
unfolding decimal places
decimal_value n low =
    let i = first 19 (λ j. ltb n (10 ^ suc j)) in
    let held = below n i refl low in
    record {
      value = digits_read (suc i) n held;
      some = omega (arith, count (suc i) n);
      front = λ more. front_digit i n held (above n i refl (omega (arith, count (suc i) n)));
    }
