-- From the values at the K points between back to the k coefficients: the sums at w's inverse are the coefficients of f(ψ·X).
-- Assumes nothing.
use mathlib.Core.Path.{◌≡◌, sym, ap, ◌∙◌}
use mathlib.Core.List.{List}
use Prim.Native.Nat.{ℕ, ◌+◌, ◌-◌, ◌*◌, ◌^◌, ◌%◌, ◌<◌, ◌≤◌}
use native.Mathlib.Omega.{arith}
use lib.ListN.{length, get_or}
use lib.Pow.{pow_pos, pow_mono, pow-add}
use Rattle.field.specs.Congruence.{◌≈◌}
use Rattle.field.specs.Field.{difference, product, inverse, power}
use Rattle.field.specs.Points.{root_of}
use Rattle.field.specs.Size.{level_of}
use Rattle.field.specs.Symbol.{Symbols}
use Rattle.field.proofs.Congruence.{≈-refl, ≈-of, ≈-sym, ◌∘≈◌, ◌+≈◌, ◌·≈◌, mul-≈, mod-≈, comb, reduced}
use Rattle.field.proofs.Fermat.{inverse-≈}
use Rattle.field.proofs.Powers.{mul_pow}
use Rattle.field.proofs.Ring.{product-≈, difference-≈, difference_lt, power-≈}
use Rattle.poly.specs.Products.{vanishing}
use Rattle.lists.specs.Tab.{tab}
use Rattle.poly.specs.Value.{value}
use Rattle.poly.proofs.Sum.{total-≈, total_ext, total_scale}
use Rattle.lists.proofs.Tab.{tab_length, tab_at, tab_ext, tab_get_or}
use Rattle.poly.proofs.Values.{value_tab, longer_sum}
use Rattle.transform_halving.specs.Transform.{sums}
use Rattle.transform_halving.proofs.Round.{Opposite, round}
use Rattle.transform_halving.proofs.Sums.{values, sums_values}
use Rattle.transform_halving.proofs.Undo.{opposite}
use Rattle.decode_between.specs.Between.{psi, between, values_between}
use Rattle.decode_between.proofs.Between.{psi_half}
use Rattle.decode_divide.specs.Quotients.{InversesBetween, quotients, untwisted}

module _ (N K e c : ℕ) (size_N : N ≡ 2 ^ e) (level_N : level_of N ≡ e) (size_K : K ≡ 2 ^ c) (level_K : level_of K ≡ c) (le : c ≤ e) (few : e < 16) where
  w : ℕ
  w = root_of K

  opposed : Opposite w (inverse w) K
  unfolding w root_of
  opposed = rw (level_K, size_K) (opposite c (omega arith))

  short : 2 ^ c ≤ 2 ^ 15
  short = pow_mono {i = c} {j = 15} (omega arith)

  unit : K * inverse K ≈ 1
  unit = inverse-≈ K (λ none. omega (arith, none.mods, size_K, pow_pos c, short))

  cancelled : (x y : ℕ) → K * x ≈ K * y → x ≈ y
  cancelled x y same = comb (inverse K ·≈ same +≈ y ·≈ unit +≈ ≈-sym (x ·≈ unit)) 0 0 (omega arith)

  -- 1/ψ^i undoes ψ^i
  pub untwist : (x y i : ℕ) → i ≤ N → x ≈ y * psi N ^ i → difference 0 (product x (power (psi N) (N - i))) ≈ y
  untwist x y i l is =
      difference-≈ 0 _
      ∘≈ comb
      (65536 ·≈ (product-≈ x _ ∘≈ mul-≈ is (power-≈ (psi N) (N - i)) ∘≈ ≈-of together)
      +≈ (65536 * y) ·≈ psi_half N K e c size_N level_N size_K level_K le few)
      y 0 (omega arith)
    where
      together : y * psi N ^ i * psi N ^ (N - i) ≡ y * psi N ^ N
      together = omega (arith, ap (y *◌) (ap (psi N ^◌) {x = N} {y = i + (N - i)} (omega arith) ∙ pow-add (psi N) i (N - i)))

  -- g is N·f·M, and the inverses are those of N·K·M
  module _ (k : ℕ) (zs g inverses f : List ℕ) (inverted : InversesBetween N K zs inverses) (long : length f ≡ k) (small : Symbols f) (enough : k ≤ K) (is : (x : ℕ) → value g x ≈ N * (value f x * value (vanishing zs) x)) where
    -- the coefficients of f(ψ·X)
    twisted : List ℕ
    twisted = tab K (λ l. get_or f l 0 * psi N ^ l)

    twisted_value : (i : ℕ) → value twisted (w ^ i) ≡ value f (between N K i)
    unfolding twisted between w
    twisted_value i =
        value_tab K _ (root_of K ^ i)
        ∙ total_ext K _ _ (λ l h. sym (ap (get_or f l 0 *◌) (mul_pow (psi N) (root_of K ^ i) l) ∙ omega arith))
        ∙ sym (longer_sum K f (psi N * root_of K ^ i) (omega (arith, long)))

    -- an entry is f(y_i) / K
    entry : (i : ℕ) → i < K → K * product (get_or (values_between N K g) i 0) (get_or inverses i 0) ≈ value f (between N K i)
    entry i l =
        K ·≈ (product-≈ _ _ ∘≈ mul-≈ (value_at ∘≈ is (between N K i)) (≈-refl {a = get_or inverses i 0}))
        ∘≈ comb (value f (between N K i) ·≈ inverted.at i l) 0 0 (omega arith)
      where
        value_at : get_or (values_between N K g) i 0 ≈ value g (between N K i)
        value_at = unfold values_between in ≈-of (tab_at K _ i l) ∘≈ mod-≈ _

    sums_entry : (x : ℕ) → K * value (quotients N K g inverses) x ≈ value (values w K twisted) x
    unfolding quotients values
    sums_entry x =
        ≈-of (ap (K *◌) (value_tab K _ x) ∙ sym (total_scale K (λ i. product (get_or (values_between N K g) i 0) (get_or inverses i 0) * x ^ i) K))
        ∘≈ total-≈ K _ _ (λ i l.
        ≈-of {b = K * product (get_or (values_between N K g) i 0) (get_or inverses i 0) * x ^ i} (omega arith)
        ∘≈ mul-≈ (entry i l ∘≈ ≈-of (sym (twisted_value i)) ∘≈ ≈-sym (mod-≈ _)) (≈-refl {a = x ^ i}))
        ∘≈ ≈-of (sym (value_tab K _ x))

    back : (l : ℕ) → l < K → get_or (sums (inverse (root_of K)) (quotients N K g inverses)) l 0 ≈ get_or f l 0 * psi N ^ l
    unfolding w
    back l h =
        ≈-of (ap (λ (s : List ℕ). get_or s l 0) (sums_values (inverse (root_of K)) (quotients N K g inverses)) ∙ entry_at)
        ∘≈ mod-≈ _
        ∘≈ cancelled _ _ (sums_entry (inverse (root_of K) ^ l) ∘≈ round w (inverse w) K opposed twisted twisted_long l h)
        ∘≈ ≈-of (unfold twisted in tab_at K _ l h)
      where
        twisted_long : length twisted ≡ K
        twisted_long = unfold twisted in tab_length K _

        entry_at : get_or (values (inverse (root_of K)) (length (quotients N K g inverses)) (quotients N K g inverses)) l 0
            ≡ value (quotients N K g inverses) (inverse (root_of K) ^ l) % 65537
        entry_at =
            unfold values quotients in ap (λ (m : ℕ). get_or (tab m (λ j. value (quotients N K g inverses) (inverse (root_of K) ^ j) % 65537)) l 0) (tab_length K _)
            ∙ tab_at K _ l h

    pub untwisted_is : tab k (untwisted N (sums (inverse (root_of K)) (quotients N K g inverses))) ≡ f
    unfolding untwisted
    untwisted_is =
        tab_ext k _ (λ i. get_or f i 0) (λ i l.
        reduced
        (untwist _ _ i (omega (arith, size_N, size_K, pow_mono le)) (back i (omega arith)))
        (difference_lt 0 _)
        (small i (omega (arith, long))))
        ∙ ap (λ (m : ℕ). tab m (λ i. get_or f i 0)) (sym long)
        ∙ tab_get_or f
