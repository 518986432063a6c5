-- The product of two lists from the transforms of both.
-- Assumes nothing.
use mathlib.Core.Path.{◌≡◌, refl, sym, ap, ap₂, subst, ◌∙◌}
use mathlib.Core.List.{List, ◌++◌}
use Prim.Native.Nat.{ℕ, suc, ◌^◌, ◌/◌, ◌<◌, ◌≤◌}
use native.Mathlib.Omega.{arith}
use lib.Pow.{pow_pos}
use lib.ListN.{length, get_or, take, drop, set, length-append, length-set}
use lib.Seq.{take_at}
use Rattle.field.specs.Field.{difference, product}
use Rattle.lists.specs.Tab.{tab}
use Rattle.lists.proofs.Tab.{tab_length}
use Rattle.transform_halving.specs.Transformable.{Transformable}
use Rattle.transform_halving.specs.Transform.{transform_of, inverse_of}
use Rattle.transform_halving.proofs.Theorems.{transform_symbols}
use Rattle.decode_product.specs.Factors.{monic_times, padded_monic}
use Rattle.decode_product.specs.Halves.{TwoFactors, first_factor, second_factor}
use Rattle.decode_product.proofs.Lending.{front_length, front_read, back_read}
use Rattle.decode_product.proofs.Quarters.{Quarters, quarters, first_factor_length, second_factor_length}
use Rattle.decode_product.proofs.Wrapping.{products, products_transformable, unwrapped}

-- s and t are the halves, e and o their transforms, and f is what multiplying leaves
module _ (d : List ℕ) (two : TwoFactors d) (s t : List ℕ) (front : s ≡ take (length d / 2) d) (back : t ≡ drop (length d / 2) d)
    (e o f : List ℕ) (kept : length e ≡ length s) (done : e ≡ transform_of (padded_monic (take (length s / 2) s)))
    (done' : o ≡ transform_of (padded_monic (take (length t / 2) t)))
    (multiplied : f ≡ tab (length e) (λ i. product (get_or e i 0) (get_or o i 0))) where
  q : Quarters d
  q = quarters d two

  long : length e ≡ length d / 2
  long = kept ∙ front_length d two _ refl s front

  first : e ≡ transform_of (padded_monic (first_factor d))
  first = done ∙ ap (λ (l : List ℕ). transform_of (padded_monic l)) (front_read d two _ refl s front)

  second : o ≡ transform_of (padded_monic (second_factor d))
  second = done' ∙ ap (λ (l : List ℕ). transform_of (padded_monic l)) (back_read d two _ refl t back)

  few : suc q.k ≤ 16
  few = omega (arith, q.few)

  first_factor_long : length (first_factor d) ≡ 2 ^ q.k
  first_factor_long = first_factor_length d two ∙ q.quarter

  second_factor_long : length (second_factor d) ≡ 2 ^ q.k
  second_factor_long = second_factor_length d two ∙ q.quarter

  values : List ℕ
  values = products q.k few (first_factor d) (second_factor d) first_factor_long second_factor_long

  values_are : f ≡ values
  unfolding values products
  values_are =
      multiplied
      ∙ ap₂ (λ (s t : List ℕ). tab (length e) (λ i. product (get_or s i 0) (get_or t i 0))) first second
      ∙ ap (λ (n : ℕ). tab n (λ i. product (get_or (transform_of (padded_monic (first_factor d))) i 0) (get_or (transform_of (padded_monic (second_factor d))) i 0))) {x = length e} {y = 2 ^ suc q.k} (omega (arith, long, q.half))

  pub values_transformable : Transformable f
  unfolding values
  values_transformable = subst Transformable (sym values_are) (products_transformable q.k few (first_factor d) (second_factor d) first_factor_long second_factor_long)

  -- g is what the inverse leaves
  module _ (g : List ℕ) (same : length g ≡ length f) (undone : g ≡ inverse_of f) where
    g_long : length g ≡ length d / 2
    g_long = same ∙ ap length multiplied ∙ tab_length (length e) _ ∙ long

    pub first_small : get_or g 0 0 < 65537
    first_small = rw undone ((transform_symbols f).3 0 (rw undone at some))
      where
        some : 0 < length g
        some = omega (arith, g_long, q.half, pow_pos q.k)

    pub product_there : (v : ℕ) (rest : List ℕ) → v ≡ difference (get_or g 0 0) 1
        → take (length d / 2) (set g 0 v ++ rest) ≡ monic_times (first_factor d) (second_factor d)
    unfolding values
    product_there v rest less =
        take_at (set g 0 v) rest (length d / 2) (length-set g 0 v ∙ g_long)
        ∙ ap (set g 0) less
        ∙ unwrapped q.k few (first_factor d) (second_factor d) first_factor_long second_factor_long g (undone ∙ ap inverse_of values_are)

    pub product_length : (v : ℕ) (rest : List ℕ) → length rest ≡ length d / 2 → length (set g 0 v ++ rest) ≡ length d
    product_length v rest same = length-append (set g 0 v) rest ∙ omega (arith, length-set g 0 v, g_long, same, q.half, q.whole)
