-- The laws of y + (X - x)·h: its length, its symbols, its value and its last coefficient.
-- Assumes nothing.
use mathlib.Core.Path.{◌≡◌, refl, sym, ap, ◌∙◌}
use mathlib.Core.List.{List, [], ◌∷◌}
use Prim.Native.Nat.{ℕ, zero, suc, ◌+◌, ◌*◌, ◌%◌, ◌<◌}
use native.Mathlib.Nat.{not-suc-le-zero, le_of_suc-le-suc}
use native.Mathlib.Omega.{arith}
use lib.ListN.{length, get_or}
use Rattle.field.specs.Congruence.{◌≈◌}
use Rattle.field.specs.Field.{difference, product}
use Rattle.field.proofs.Congruence.{≈-refl, ◌∘≈◌, ◌+≈◌, ◌·≈◌, mod-≈, comb}
use Rattle.field.proofs.Ring.{difference-≈, product-≈, difference_lt}
use Rattle.lists.specs.Every.{Every}
use Rattle.poly.specs.Raised.{raised}
use Rattle.poly.specs.Value.{value}

pub raised_length : (x y : ℕ) (h : List ℕ) → length (raised x y h) ≡ suc (length h)
unfolding raised
raised_length x y [] = refl
raised_length x y (a ∷ h) = ap suc (raised_length x a h)

pub raised_symbols : (x y : ℕ) (h : List ℕ) → Every (◌< 65537) (raised x y h)
unfolding raised Every
raised_symbols x y [] = (omega arith, tt)
raised_symbols x y (a ∷ h) = (difference_lt _ _, raised_symbols x a h)

pub raised_value : (x y : ℕ) (h : List ℕ) (z : ℕ) → value (raised x y h) z + x * value h z ≈ y + z * value h z
unfolding raised value
raised_value x y [] z = comb (mod-≈ y) 0 0 (omega arith)
raised_value x y (a ∷ h) z = comb (first +≈ z ·≈ raised_value x a h z) 0 (x * a) (omega arith)
  where
    first : difference y (product x a) ≈ y + 65536 * (x * a)
    first = difference-≈ y (product x a) ∘≈ ≈-refl +≈ 65536 ·≈ product-≈ x a

-- its coefficients, each from the one before and the one at its own index, and the last one from the one before alone

pub raised_at : (x y : ℕ) (h : List ℕ) (i : ℕ) → i < length h → get_or (raised x y h) i 0 ≡ difference (get_or (y ∷ h) i 0) (product x (get_or h i 0))
unfolding raised
raised_at x y [] i l = absurd (not-suc-le-zero l)
raised_at x y (a ∷ h) zero l = refl
raised_at x y (a ∷ h) (suc i) l = raised_at x a h i (le_of_suc-le-suc l)

raised_end : (x y : ℕ) (h : List ℕ) → get_or (raised x y h) (length h) 0 ≡ get_or (y ∷ h) (length h) 0 % 65537
unfolding raised
raised_end x y [] = refl
raised_end x y (a ∷ h) = raised_end x a h

-- the last coefficient is that of h
pub raised_last : (x y : ℕ) (h : List ℕ) (n : ℕ) → length h ≡ suc n → get_or (raised x y h) (suc n) 0 ≡ get_or h n 0 % 65537
raised_last x y h n size =
    ap (λ (m : ℕ). get_or (raised x y h) m 0) (sym size)
    ∙ raised_end x y h
    ∙ ap (λ (m : ℕ). get_or (y ∷ h) m 0 % 65537) size
