-- Two lists and the room behind each lent as slices of their own, and the product that comes to stand in the rooms.
-- Assumes nothing.
use mathlib.Core.Path.{◌≡◌, sym, ap, ap₂, subst, ◌∙◌}
use mathlib.Core.List.{List, ◌++◌}
use Prim.Native.Nat.{ℕ, ◌+◌, ◌*◌, ◌/◌}
use native.Mathlib.Omega.{arith}
use lib.ListN.{length, take, drop, length-drop}
use lib.Seq.{length-take-le, take-take, take_at}
use Rattle.field.specs.Symbol.{Symbols}
use Rattle.lists.specs.Tab.{tab}
use Rattle.lists.proofs.Tab.{tab_length, tab_append}
use Rattle.decode_product.specs.Factors.{coefficient, monic_times}
use Rattle.decode_product.specs.Halves.{ShortLists, TwoFactors, first_factor, second_factor}
use Rattle.decode_product.proofs.Quarters.{Quarters, quarters, first_factor_length, second_factor_length}

-- a and below are the quarters of the front half, b and above those of the back half
module _ (d : List ℕ) (two : TwoFactors d) (front back a below b above : List ℕ)
    (front_is : front ≡ take (length d / 4 * 2) d) (back_is : back ≡ drop (length d / 4 * 2) d)
    (a_is : a ≡ take (length d / 4) front) (below_is : below ≡ drop (length d / 4) front)
    (b_is : b ≡ take (length d / 4) back) (above_is : above ≡ drop (length d / 4) back) where
  q : Quarters d
  q = quarters d two

  a_first : a ≡ first_factor d
  a_first = a_is ∙ ap (take (length d / 4)) front_is ∙ take-take (length d / 4) (length d / 4 * 2) d (omega arith)

  b_second : b ≡ second_factor d
  b_second =
      b_is ∙ ap (take (length d / 4)) (back_is ∙ ap (λ (n : ℕ). drop n d) {x = length d / 4 * 2} {y = length d / 2} (omega (arith, q.quarter, q.half)))

  a_length : length a ≡ length d / 4
  a_length = ap length a_first ∙ first_factor_length d two

  b_length : length b ≡ length d / 4
  b_length = ap length b_second ∙ second_factor_length d two

  pub lent : ShortLists a b × (length below ≡ length a) × (length above ≡ length a)
  lent = (
    record {
      long = b_length ∙ sym a_length;
      short = omega (arith, a_length, q.quarter, q.short);
      first = subst Symbols (sym a_first) two.first;
      second = subst Symbols (sym b_second) two.second;
    },
    ap length below_is ∙ length-drop (length d / 4) front ∙ omega (arith, ap length front_is, length-take-le (length d / 4 * 2) d (omega arith), a_length),
    ap length above_is ∙ length-drop (length d / 4) back ∙ omega (arith, ap length back_is, length-drop (length d / 4 * 2) d, a_length, q.quarter, q.whole),
  )

  -- both halves of the product at the front
  pub gathered : (lows highs s t rest : List ℕ) → lows ≡ tab (length a) (coefficient a b)
      → highs ≡ tab (length a) (λ i. coefficient a b (length a + i)) → s ≡ lows → t ≡ highs
      → take (length d / 2) ((s ++ t) ++ rest) ≡ monic_times (first_factor d) (second_factor d)
  unfolding monic_times
  gathered lows highs s t rest low high once twice =
      take_at (s ++ t) rest (length d / 2)
      (ap length both ∙ tab_length (length a + length a) (coefficient a b) ∙ omega (arith, a_length, q.quarter, q.half))
      ∙ both
      ∙ ap (λ (n : ℕ). tab n (coefficient a b)) {x = length a + length a} {y = length a + length b} (omega (arith, a_length, b_length))
      ∙ ap₂ monic_times a_first b_second
    where
      both : s ++ t ≡ tab (length a + length a) (coefficient a b)
      both = ap₂ ◌++◌ (once ∙ low) (twice ∙ high) ∙ sym (tab_append (length a) (length a) (coefficient a b))
