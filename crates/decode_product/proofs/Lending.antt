-- The halves of cells in which two lists stand, lent as slices of their own: each is good, and its front is one of the lists.
-- Assumes nothing.
use mathlib.Core.Path.{◌≡◌, sym, ap, ap₂, subst, ◌∙◌}
use mathlib.Core.List.{List}
use Prim.Native.Nat.{ℕ, suc, ◌^◌, ◌/◌}
use native.Mathlib.Omega.{arith}
use lib.Pow.{pow_pos}
use lib.ListN.{length, take, drop, length-drop}
use lib.Seq.{length-take-le, take-take}
use Rattle.field.specs.Size.{size_of}
use Rattle.field.specs.Symbol.{Symbols}
use Rattle.field.proofs.Sizes.{size_of_power}
use Rattle.decode_product.specs.Halves.{SymbolsInFront, TwoFactors, first_factor, second_factor}
use Rattle.decode_product.proofs.Quarters.{Quarters, quarters}

module _ (d : List ℕ) (two : TwoFactors d) (half : ℕ) (halved : half ≡ length d / 2) where
  q : Quarters d
  q = quarters d two

  -- a half of the cells, with a good list in its front
  half_good : (p s : List ℕ) → length p ≡ length d / 2 → take (length p / 2) p ≡ s → Symbols s → SymbolsInFront p
  half_good p s long front small = (
    size ∙ sym (ap size_of size ∙ size_of_power (suc q.k) (omega (arith, q.few))),
    omega (arith, q.half, pow_pos q.k, long),
    subst Symbols (sym front) small,
  )
    where
      size : length p ≡ 2 ^ suc q.k
      size = omega (arith, q.half, long)

  module _ (p : List ℕ) (is : p ≡ take half d) where
    pub front_length : length p ≡ length d / 2
    front_length = ap length is ∙ length-take-le half d (omega (arith, halved)) ∙ halved

    pub front_read : take (length p / 2) p ≡ first_factor d
    front_read =
        ap₂ take {x = length p / 2} {y = length d / 4} (omega (arith, front_length, q.half, q.quarter)) is
        ∙ take-take (length d / 4) half d (omega (arith, halved, q.half, q.quarter))

    pub front_good : SymbolsInFront p
    front_good = half_good p (first_factor d) front_length front_read two.first

  module _ (p : List ℕ) (is : p ≡ drop half d) where
    pub back_length : length p ≡ length d / 2
    back_length = ap length is ∙ length-drop half d ∙ omega (arith, halved, q.half, q.whole)

    pub back_read : take (length p / 2) p ≡ second_factor d
    back_read =
        ap₂ take {x = length p / 2} {y = length d / 4} (omega (arith, back_length, q.half, q.quarter)) (is ∙ ap (λ (n : ℕ). drop n d) halved)

    pub back_good : SymbolsInFront p
    back_good = half_good p (second_factor d) back_length back_read two.second
