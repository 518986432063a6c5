-- A polynomial has no more zeros than its degree, so that k coefficients are settled by their values at k or more distinct points.
-- Assumes nothing.
use mathlib.Core.Path.{◌≡◌, refl, sym, ap, ◌∙◌}
use mathlib.Core.List.{List, [], ◌∷◌}
use Prim.Native.Nat.{ℕ, suc, ◌+◌, ◌*◌, ◌<◌, ◌≤◌}
use native.Mathlib.Nat.{le_of_eq}
use native.Mathlib.Omega.{arith}
use lib.ListN.{length}
use Rattle.field.specs.Congruence.{◌≈◌}
use Rattle.field.proofs.Congruence.{≈-of, ≈-sym, ◌∘≈◌, ◌+≈◌, comb, reduced}
use Rattle.field.proofs.Fermat.{no_divisors}
use Rattle.poly.specs.Distinct.{Distinct}
use Rattle.poly.specs.Division.{quotient}
use Rattle.lists.specs.Every.{Every}
use Rattle.poly.specs.Value.{value}
use Rattle.poly.proofs.Division.{quotient_length, divided, quotient_zero}
use Rattle.lists.proofs.Every.{every_map, every_both}

-- what two distinct numbers multiply to the same is 0
pub cancel : (x y c : ℕ) → ¬ (y ≈ x) → x * c ≈ y * c → c ≈ 0
cancel x y c apart same =
    no_divisors (y + 65536 * x) c (comb (≈-sym same) 0 (x * c) (omega arith)) (λ e. apart (comb e x 0 (omega arith)))

-- a zero apart from x is a zero of the quotient by X - x
pub quotient_root : (a : ℕ) (s : List ℕ) (x y : ℕ) → value (a ∷ s) x ≈ 0 → ¬ (y ≈ x) → value (a ∷ s) y ≈ 0
    → value (quotient a s x) y ≈ 0
quotient_root a s x y zero-x apart zero-y =
    cancel x y (value (quotient a s x) y) apart (comb (zero-x +≈ ≈-sym zero-y) 0 0 (omega (arith, divided a s x y)))

pub vanishing_is_zero : (xs s : List ℕ) → length s ≤ length xs → Distinct xs → Every (λ x. value s x ≈ 0) xs
    → Every (◌≈ 0) s
unfolding Distinct Every
vanishing_is_zero [] [] size apart none = tt
vanishing_is_zero [] (a ∷ s) size apart none = absurd (omega arith)
vanishing_is_zero (x ∷ xs) [] size apart none = tt
vanishing_is_zero (x ∷ xs) (a ∷ s) size apart none =
    quotient_zero a s x none.0
    (vanishing_is_zero xs (quotient a s x) (omega (arith, quotient_length a s x)) apart.1
    (every_map (λ y h. quotient_root a s x y none.0 h.0 h.1) xs (every_both _ _ xs apart.0 none.1)))

-- s - t, not reduced; 65536 stands for minus one
less : List ℕ → List ℕ → List ℕ
less [] t = []
less (a ∷ s) [] = a ∷ s
less (a ∷ s) (b ∷ t) = (a + 65536 * b) ∷ less s t

less_length : (s t : List ℕ) → length (less s t) ≡ length s
unfolding less
less_length [] t = refl
less_length (a ∷ s) [] = refl
less_length (a ∷ s) (b ∷ t) = ap suc (less_length s t)

less_value : (s t : List ℕ) (x : ℕ) → length s ≡ length t → value (less s t) x ≡ value s x + 65536 * value t x
unfolding less value
less_value [] [] x size = refl
less_value [] (b ∷ t) x size = absurd (omega arith)
less_value (a ∷ s) [] x size = absurd (omega arith)
less_value (a ∷ s) (b ∷ t) x size = omega (arith, ap (x *◌) (less_value s t x (omega arith)))

less_zero : (s t : List ℕ) → length s ≡ length t → Every (◌< 65537) s → Every (◌< 65537) t → Every (◌≈ 0) (less s t) → s ≡ t
unfolding less Every
less_zero [] [] size low-s low-t none = refl
less_zero [] (b ∷ t) size low-s low-t none = absurd (omega arith)
less_zero (a ∷ s) [] size low-s low-t none = absurd (omega arith)
less_zero (a ∷ s) (b ∷ t) size low-s low-t none =
    cc (
      reduced (comb none.0 b 0 (omega arith)) low-s.0 low-t.0,
      less_zero s t (omega arith) low-s.1 low-t.1 none.1,
    )

pub unique_among : (xs s t : List ℕ) → length s ≡ length t → length s ≤ length xs → Distinct xs → Every (◌< 65537) s
    → Every (◌< 65537) t → Every (λ x. value s x ≈ value t x) xs → s ≡ t
unique_among xs s t size enough apart low-s low-t same =
    less_zero s t size low-s low-t
    (vanishing_is_zero xs (less s t) (omega (arith, less_length s t)) apart
    (every_map (λ x h. ≈-of (less_value s t x size) ∘≈ comb h 0 (value t x) (omega arith)) xs same))

-- the same where the points are as many as the coefficients
pub unique : (xs s t : List ℕ) → length s ≡ length xs → length t ≡ length xs → Distinct xs → Every (◌< 65537) s
    → Every (◌< 65537) t → Every (λ x. value s x ≈ value t x) xs → s ≡ t
unique xs s t size-s size-t = unique_among xs s t (size-s ∙ sym size-t) (le_of_eq size-s)
