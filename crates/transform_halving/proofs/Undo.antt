-- The root of order N and its inverse are opposite, so the inverse undoes the transform and the transform undoes the inverse.
-- Assumes nothing.
use mathlib.Core.Path.{◌≡◌, refl, sym, ap, subst, ◌∙◌}
use mathlib.Core.List.{List}
use Prim.Native.Nat.{ℕ, zero, suc, ◌*◌, ◌^◌, ◌<◌, ◌≤◌}
use native.Mathlib.Nat.{mul_comm, pow-suc, mod-eq_of_lt, not-suc-le-zero}
use native.Mathlib.Omega.{arith}
use lib.ListN.{length, get_or}
use lib.Pow.{pow_pos}
use Rattle.field.specs.Congruence.{◌≈◌}
use Rattle.field.specs.Field.{product, inverse}
use Rattle.field.specs.Points.{root_of}
use Rattle.field.specs.Roots.{root}
use Rattle.field.specs.Size.{level_of}
use Rattle.field.proofs.Congruence.{≈-refl, ≈-of, ≈-sym, ◌∘≈◌, ◌+≈◌, ◌·≈◌, mul-≈, pow-≈, mod-≈, comb, reduced}
use Rattle.field.proofs.Fermat.{inverse-≈}
use Rattle.field.proofs.Powers.{mul_pow, one_pow}
use Rattle.field.proofs.Ring.{product-≈, product_lt}
use Rattle.field.proofs.Roots.{root_full, root_order, powers_distinct}
use Rattle.field.proofs.Sizes.{level_le}
use Rattle.poly.specs.Sum.{total}
use Rattle.lists.specs.Tab.{tab}
use Rattle.poly.specs.Value.{value}
use Rattle.poly.proofs.Sum.{total-≈, total_scale}
use Rattle.lists.proofs.Tab.{tab_length, tab_ext, tab_get_or}
use Rattle.poly.proofs.Values.{plain_sum, value_tab}
use Rattle.transform_halving.specs.Transformable.{Transformable}
use Rattle.transform_halving.specs.Transform.{transform_of, inverse_of}
use Rattle.transform_halving.proofs.Transformable.{transformable_power, transformable_short}
use Rattle.transform_halving.proofs.Round.{Opposite, round}
use Rattle.transform_halving.proofs.Sums.{values, values_at, values_length, sum_value, sums_values}

-- what has a power 1 is not 0
not_zero : (r n : ℕ) → 0 < n → r ^ n ≈ 1 → ¬ (r ≈ 0)
not_zero r zero some full none = not-suc-le-zero some
not_zero r (suc n) some full none =
    absurd (omega (arith, (≈-sym full ∘≈ ≈-of (pow-suc r n) ∘≈ r ^ n ·≈ none ∘≈ ≈-of {b = 0} (omega arith)).mods))

-- the other way round
pub flipped : {r q n : ℕ} → Opposite r q n → Opposite q r n
flipped {r} {q} {n} o =
    record {
      full = o.full';
      full' = o.full;
      apart = λ i l h k one. sym (o.apart l i k h (≈-of (mul_comm (r ^ l) (q ^ i)) ∘≈ one));
      meet = λ l. ≈-of (mul_comm (q ^ l) (r ^ l)) ∘≈ o.meet l;
    }

pub opposite : (e : ℕ) → e ≤ 16 → Opposite (root e) (inverse (root e)) (2 ^ e)
opposite e h =
    record {
      full = full;
      full' = comb (≈-sym (q ^ n ·≈ full) +≈ meet n) 0 0 (omega arith);
      apart = λ i l hi hl one. powers_distinct r n (root_order e (omega arith)) i l hi hl (comb (≈-sym (r ^ i ·≈ meet l) +≈ r ^ l ·≈ one) 0 0 (omega arith));
      meet = meet;
    }
  where
    r : ℕ
    r = root e

    q : ℕ
    q = inverse r

    n : ℕ
    n = 2 ^ e

    full : r ^ n ≈ 1
    full = root_full e (omega arith)

    meet : (l : ℕ) → r ^ l * q ^ l ≈ 1
    meet l = ≈-of (sym (mul_pow r q l)) ∘≈ pow-≈ (inverse-≈ r (not_zero r n (pow_pos e) full)) l ∘≈ ≈-of (one_pow l)

pub transform_values : (a : List ℕ) → transform_of a ≡ values (root_of (length a)) (length a) a
unfolding transform_of
transform_values a = sums_values (root_of (length a)) a

-- 1/N times the values at the powers of the root's inverse
pub inverse_values : (a : List ℕ)
    → inverse_of a ≡ tab (length a) (λ j. product (inverse (length a)) (get_or (values (inverse (root_of (length a))) (length a) a) j 0))
unfolding inverse_of product
inverse_values a = tab_ext (length a) _ _ (λ j h.
    (inverse (length a) ·≈ (≈-of (sum_value _ a j) ∘≈ ≈-sym (mod-≈ _) ∘≈ ≈-of (sym (values_at _ (length a) a j h)))).mods)

pub transform_length : (a : List ℕ) → length (transform_of a) ≡ length a
transform_length a = rw transform_values (values_length _ _ a)

pub inverse_length : (a : List ℕ) → length (inverse_of a) ≡ length a
unfolding inverse_of
inverse_length a = tab_length (length a) _

-- a factor on every number is a factor on the value
pub scaled_value : (c n : ℕ) (s : List ℕ) (x : ℕ) → length s ≡ n → value (tab n (λ j. product c (get_or s j 0))) x ≈ c * value s x
scaled_value c n s x e =
    ≈-of (value_tab n _ x)
    ∘≈ total-≈ n _ (λ j. c * (get_or s j 0 * x ^ j)) (λ j h. mul-≈ (product-≈ c (get_or s j 0)) ≈-refl ∘≈ ≈-of (omega arith))
    ∘≈ ≈-of (total_scale n (λ j. get_or s j 0 * x ^ j) c
    ∙ ap (c *◌) (ap (λ (m : ℕ). total m (λ j. get_or s j 0 * x ^ j)) (sym e) ∙ sym (plain_sum s x)))

module _ (a : List ℕ) (able : Transformable a) where
  n : ℕ
  n = length a

  r : ℕ
  r = root_of n

  q : ℕ
  q = inverse r

  c : ℕ
  c = inverse n

  size : n ≡ 2 ^ level_of n
  unfolding n
  size = transformable_power a able

  pub opposed : Opposite (root_of (length a)) (inverse (root_of (length a))) (length a)
  unfolding n root_of
  opposed = subst (Opposite (root (level_of n)) (inverse (root (level_of n)))) (sym size) (opposite (level_of n) (level_le n))

  -- 1/N times N is one
  unit : c * n ≈ 1
  unfolding c n
  unit = ≈-of (mul_comm (inverse n) n) ∘≈ inverse-≈ n (λ none. omega (arith, none.mods, size, pow_pos (level_of n), transformable_short a able))

  undone : (x y : ℕ) → x ≈ n * y → c * x ≈ y
  undone x y e = c ·≈ e ∘≈ comb (y ·≈ unit) 0 0 (omega arith)

  pub inverse_undoes : inverse_of (transform_of a) ≡ a
  unfolding n r q c
  inverse_undoes =
      inverse_values (transform_of a)
      ∙ rw (transform_length a, transform_values a)
      (tab_ext n _ (λ j. get_or a j 0) (λ j h.
      reduced
      (product-≈ c _ ∘≈ undone _ (get_or a j 0) (≈-of (values_at q n (values r n a) j h) ∘≈ mod-≈ _ ∘≈ round r q n opposed a refl j h))
      (product_lt c _)
      (able.symbols j h))
      ∙ tab_get_or a)

  pub transform_undoes : transform_of (inverse_of a) ≡ a
  unfolding n r q c values
  transform_undoes =
      transform_values (inverse_of a)
      ∙ rw (inverse_length a, inverse_values a)
      (tab_ext n _ (λ j. get_or a j 0) (λ j h.
      (scaled_value c n (values q n a) (r ^ j) (values_length q n a)
      ∘≈ undone _ (get_or a j 0) (round q r n (flipped opposed) a refl j h)).mods
      ∙ mod-eq_of_lt (able.symbols j h))
      ∙ tab_get_or a)
