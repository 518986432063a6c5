-- Two lists multiplied by their values at the roots: X^n is 1 there, n being twice the length of each, so that the product comes back with its
-- highest coefficient added to the lowest.
-- Assumes nothing.
use mathlib.Core.Path.{◌≡◌, sym, ap, ◌∙◌}
use mathlib.Core.List.{List, [], ◌∷◌}
use Prim.Native.Nat.{ℕ, suc, ◌+◌, ◌*◌, ◌^◌, ◌<◌, ◌≤◌}
use native.Mathlib.Nat.{not-suc-le-zero, pow-succ'}
use native.Mathlib.Omega.{arith}
use lib.Pow.{pow_pos}
use lib.ListN.{length, get_or, set, length-set}
use Rattle.field.specs.Congruence.{◌≈◌}
use Rattle.field.specs.Field.{difference, product}
use Rattle.field.specs.Points.{root_of}
use Rattle.field.specs.Roots.{root}
use Rattle.field.specs.Size.{level_of}
use Rattle.field.proofs.Congruence.{≈-of, ≈-sym, ◌∘≈◌, ◌+≈◌, mul-≈, mod-≈, comb}
use Rattle.field.proofs.Powers.{full_power}
use Rattle.field.proofs.Ring.{difference-≈, difference_lt, product-≈, product_lt}
use Rattle.field.proofs.Roots.{root_order, root_full, powers_distinct}
use Rattle.field.proofs.Sizes.{level_power}
use Rattle.poly.specs.Distinct.{Distinct}
use Rattle.lists.specs.Tab.{tab}
use Rattle.poly.specs.Value.{value}
use Rattle.poly.proofs.Distinct.{distinct_tab}
use Rattle.lists.proofs.Every.{every_tab}
use Rattle.poly.proofs.Symbols.{set_symbols, symbols_every, tab_symbols}
use Rattle.lists.proofs.Tab.{tab_length, tab_at}
use Rattle.transform_halving.specs.Transformable.{Transformable}
use Rattle.transform_halving.specs.Transform.{transform_of, inverse_of}
use Rattle.transform_halving.proofs.Transformable.{transformable_of}
use Rattle.transform_halving.proofs.Sums.{values_at}
use Rattle.transform_halving.proofs.Theorems.{transform_symbols}
use Rattle.transform_halving.proofs.Undo.{transform_values, transform_undoes, inverse_length}
use Rattle.decode_product.specs.Factors.{monic_times, padded_monic}
use Rattle.decode_product.proofs.Padding.{padded_length, padded_value}
use Rattle.decode_product.proofs.Times.{times_determined}

-- the lowest coefficient changed
first_changed : (s : List ℕ) (v x : ℕ) → 0 < length s → value (set s 0 v) x + get_or s 0 0 ≡ value s x + v
unfolding value
first_changed [] v x some = absurd (not-suc-le-zero some)
first_changed (y ∷ s) v x some = omega arith

module _ (k : ℕ) (few : suc k ≤ 16) where
  n : ℕ
  n = 2 ^ suc k

  r : ℕ
  r = root (suc k)

  some : 0 < n
  unfolding n
  some = pow_pos (suc k)

  twice : 2 ^ k + 2 ^ k ≡ n
  unfolding n
  twice = sym (pow-succ' 2 k ∙ omega arith)

  root_is : (s : List ℕ) → length s ≡ n → root_of (length s) ≡ r
  unfolding root_of n r
  root_is s long = ap root (ap level_of long ∙ level_power (suc k) few)

  full : (j : ℕ) → (r ^ j) ^ n ≈ 1
  unfolding n r
  full j = full_power r n j (root_full (suc k) (omega arith))

  apart : Distinct (tab n (λ j. r ^ j))
  unfolding n r
  apart = distinct_tab n _ (λ i j l h same. omega (arith, powers_distinct r n (root_order (suc k) (omega arith)) j i h (omega arith) same))

  value_there : (s : List ℕ) → length s ≡ n → (j : ℕ) → j < n → get_or (transform_of s) j 0 ≈ value s (r ^ j)
  value_there s long j h =
      ≈-of (ap (λ (l : List ℕ). get_or l j 0) (transform_values s) ∙ values_at (root_of (length s)) (length s) s j (omega arith))
      ∘≈ mod-≈ _
      ∘≈ ≈-of (ap (λ (x : ℕ). value s (x ^ j)) (root_is s long))

  module _ (a b : List ℕ) (long_a : length a ≡ 2 ^ k) (long_b : length b ≡ 2 ^ k) where
    -- the values of the product at the roots
    unfoldable pub products : List ℕ
    products = tab (2 ^ suc k) (λ j. product (get_or (transform_of (padded_monic a)) j 0) (get_or (transform_of (padded_monic b)) j 0))

    pub products_transformable : Transformable products
    unfolding products
    products_transformable = transformable_of (suc k) few products (tab_length (2 ^ suc k) _) (tab_symbols (2 ^ suc k) _ (λ j h. product_lt _ _))

    back : List ℕ
    back = inverse_of products

    back_length : length back ≡ n
    unfolding back products n
    back_length = inverse_length products ∙ tab_length n _

    value_back : (j : ℕ) → j < n → value back (r ^ j) ≈ (value a (r ^ j) + (r ^ j) ^ length a) * (value b (r ^ j) + (r ^ j) ^ length b)
    unfolding back products n
    value_back j h =
        ≈-sym (value_there back back_length j h)
        ∘≈ ≈-of (ap (λ (l : List ℕ). get_or l j 0) (transform_undoes products products_transformable) ∙ tab_at n _ j h)
        ∘≈ product-≈ _ _
        ∘≈ mul-≈ (factor a long_a) (factor b long_b)
      where
        factor : (s : List ℕ) → length s ≡ 2 ^ k → get_or (transform_of (padded_monic s)) j 0 ≈ value s (r ^ j) + (r ^ j) ^ length s
        factor s long =
            value_there (padded_monic s) (padded_length s (omega (arith, pow_pos k)) ∙ omega (arith, twice)) j h ∘≈ ≈-of (padded_value s (r ^ j))

    pub unwrapped : (t : List ℕ) → t ≡ inverse_of products → set t 0 (difference (get_or t 0 0) 1) ≡ monic_times a b
    unfolding back n
    unwrapped t is =
        ap (λ (s : List ℕ). set s 0 (difference (get_or s 0 0) 1)) is
        ∙ times_determined a b changed (tab n (λ j. r ^ j)) (long ∙ omega (arith, twice)) (tab_length n _ ∙ sym long) apart
        (symbols_every changed (set_symbols back 0 _ (transform_symbols products).3 (difference_lt _ 1)))
        (every_tab _ n _ (λ j h. rw long
        (comb (value_back j h +≈ full j +≈ difference-≈ (get_or back 0 0) 1) 0 1
        (omega (arith, first_changed back (difference (get_or back 0 0) 1) (r ^ j) (omega (arith, back_length, some)))))))
      where
        changed : List ℕ
        changed = set back 0 (difference (get_or back 0 0) 1)

        long : length changed ≡ n
        long = length-set back 0 _ ∙ back_length
