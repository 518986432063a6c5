-- A polynomial that is 0 at distinct points is another one, shorter by as many coefficients, times the product over these points.
-- Assumes nothing.
use mathlib.Core.Path.{◌≡◌}
use mathlib.Core.List.{List, [], ◌∷◌}
use Prim.Native.Nat.{ℕ, ◌+◌, ◌*◌}
use native.Mathlib.Omega.{arith}
use lib.ListN.{length}
use Rattle.field.specs.Congruence.{◌≈◌}
use Rattle.field.proofs.Congruence.{≈-of, ≈-sym, ◌+≈◌, ◌·≈◌, comb}
use Rattle.poly.specs.Distinct.{Distinct}
use Rattle.poly.specs.Division.{quotient}
use Rattle.lists.specs.Every.{Every}
use Rattle.poly.specs.Products.{times, vanishing}
use Rattle.poly.specs.Value.{value}
use Rattle.poly.proofs.Counting.{quotient_root}
use Rattle.poly.proofs.Division.{quotient_length, divided}
use Rattle.lists.proofs.Every.{every_map, every_both}
use Rattle.poly.proofs.Products.{times_value}

-- s is f divided by the product over zs, and has c coefficients
pub record Quotient (c : ℕ) (zs f : List ℕ) : Type 0 where
  pub s : List ℕ
  pub long : length s ≡ c
  pub is : (x : ℕ) → value f x ≈ value s x * value (vanishing zs) x

-- one point more: q is the quotient by X - z, and rest what is left of it
one_more : (z : ℕ) (zs : List ℕ) (a : ℕ) (t : List ℕ) (c : ℕ) → value (a ∷ t) z ≈ 0 → Quotient c zs (quotient a t z) → Quotient c (z ∷ zs) (a ∷ t)
unfolding vanishing
one_more z zs a t c none rest =
    record {
      s = rest.s;
      long = rest.long;
      is = λ x.
          comb
          (≈-of (divided a t z x) +≈ none +≈ (x + 65536 * z) ·≈ rest.is x +≈ value rest.s x ·≈ ≈-sym (times_value (1 ∷ []) zs z x))
          (z * value (quotient a t z) x)
          (z * (value rest.s x * value (vanishing zs) x))
          (omega arith);
    }

pub divided_by : (zs f : List ℕ) (c : ℕ) → length f ≡ length zs + c → Distinct zs → Every (λ z. value f z ≈ 0) zs → Quotient c zs f
unfolding Distinct Every vanishing times value
divided_by [] f c size apart none = record { s = f; long = omega arith; is = λ x. ≈-of (omega arith) }
divided_by (z ∷ zs) [] c size apart none = absurd (omega arith)
divided_by (z ∷ zs) (a ∷ t) c size apart none =
    one_more z zs a t c none.0
    (divided_by zs (quotient a t z) c (omega (arith, quotient_length a t z)) apart.1
    (every_map (λ y h. quotient_root a t z y none.0 h.0 h.1) zs (every_both _ _ zs apart.0 none.1)))
