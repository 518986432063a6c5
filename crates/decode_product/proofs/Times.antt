-- The value of a product is the product of the values, and so the list of its coefficients is settled by its values at as many points.
-- Assumes nothing.
use mathlib.Core.Path.{◌≡◌, refl, sym, ap, ap₂, ◌∙◌}
use mathlib.Core.List.{List, [], ◌∷◌, ◌++◌}
use Prim.Native.Nat.{ℕ, zero, suc, ◌+◌, ◌-◌, ◌*◌, ◌^◌, ◌%◌, ◌<◌, ◌≤◌}
use native.Mathlib.Nat.{zero-add, suc-add, mod-lt}
use native.Mathlib.Omega.{arith}
use lib.Dec.{lit<}
use lib.Pow.{pow-add}
use lib.ListN.{length, get_or, replicate, length-append, length-replicate}
use Rattle.field.specs.Congruence.{◌≈◌}
use Rattle.field.proofs.Congruence.{≈-refl, ≈-of, ≈-sym, ◌∘≈◌, ◌+≈◌, ◌·≈◌, mod-≈, comb}
use Rattle.poly.specs.Distinct.{Distinct}
use Rattle.lists.specs.Every.{Every}
use Rattle.poly.specs.Sum.{total}
use Rattle.lists.specs.Tab.{tab}
use Rattle.poly.specs.Value.{value}
use Rattle.poly.proofs.Counting.{unique}
use Rattle.lists.proofs.Every.{every_map, every_tab}
use Rattle.poly.proofs.Sum.{total_ext, total_zero}
use Rattle.lists.proofs.Tab.{tab_length, tab_ext}
use Rattle.poly.proofs.Values.{value_append, value_zeros}
use Rattle.decode_product.specs.Factors.{crossed, coefficient, monic_times}

-- The value of a list that is given by its entries

value_sum : (n : ℕ) (f g : ℕ → ℕ) (x : ℕ) → value (tab n (λ i. f i + g i)) x ≡ value (tab n f) x + value (tab n g) x
unfolding value tab
value_sum zero f g x = refl
value_sum (suc n) f g x = omega (arith, ap (x *◌) (value_sum n (λ i. f (suc i)) (λ i. g (suc i)) x))

value_scaled : (n : ℕ) (c : ℕ) (f : ℕ → ℕ) (x : ℕ) → value (tab n (λ i. c * f i)) x ≡ c * value (tab n f) x
unfolding value tab
value_scaled zero c f x = omega arith
value_scaled (suc n) c f x = omega (arith, ap (x *◌) (value_scaled n c (λ i. f (suc i)) x))

value_reduced : (n : ℕ) (f : ℕ → ℕ) (x : ℕ) → value (tab n (λ i. f i % 65537)) x ≈ value (tab n f) x
unfolding value tab
value_reduced zero f x = ≈-refl
value_reduced (suc n) f x = mod-≈ (f 0) +≈ x ·≈ value_reduced n (λ i. f (suc i)) x

-- a list's own entries, and zeros behind them
value_entries : (n : ℕ) (s : List ℕ) (x : ℕ) → length s ≤ n → value (tab n (λ i. get_or s i 0)) x ≡ value s x
unfolding value tab
value_entries zero [] x h = refl
value_entries zero (a ∷ s) x h = absurd (omega arith)
value_entries (suc n) [] x h = omega (arith, ap (x *◌) (value_entries n [] x (omega arith)))
value_entries (suc n) (a ∷ s) x h = omega (arith, ap (x *◌) (value_entries n s x (omega arith)))

-- The product of two polynomials

crossed_none : (b : List ℕ) (i : ℕ) → crossed [] b i ≡ 0
unfolding crossed
crossed_none b i = total_ext (suc i) _ (λ j. 0) (λ j h. omega arith) ∙ total_zero (suc i)

crossed_first : (y : ℕ) (a b : List ℕ) → crossed (y ∷ a) b 0 ≡ y * get_or b 0 0
unfolding crossed total
crossed_first y a b = omega arith

crossed_next : (y : ℕ) (a b : List ℕ) (i : ℕ) → crossed (y ∷ a) b (suc i) ≡ y * get_or b (suc i) 0 + crossed a b i
unfolding crossed total
crossed_next y a b i =
    ap₂ ◌+◌
    (ap (λ (k : ℕ). y * get_or b k 0) {x = suc i - 0} {y = suc i} (omega arith))
    (total_ext (suc i) _ (λ j. get_or a j 0 * get_or b (i - j) 0) (λ j h. ap (λ (k : ℕ). get_or a j 0 * get_or b k 0) {x = suc i - suc j} {y = i - j} (omega arith)))

crossed_value : (a b : List ℕ) (n x : ℕ) → length b ≤ n → value (tab (length a + n) (crossed a b)) x ≡ value a x * value b x
unfolding value tab
crossed_value [] b n x h =
    ap (λ (m : ℕ). value (tab m (crossed [] b)) x) (zero-add n)
    ∙ ap (λ (s : List ℕ). value s x) (tab_ext n _ (λ i. get_or [] i 0) (λ i l. crossed_none b i))
    ∙ value_entries n [] x (omega arith)
    ∙ omega arith
crossed_value (y ∷ a) b n x h =
    rw suc-add
    (omega (
      arith,
      crossed_first y a b,
      ap (x *◌)
          (ap (λ (s : List ℕ). value s x) (tab_ext m _ _ (λ i l. crossed_next y a b i))
          ∙ value_sum m (λ i. y * get_or b (suc i) 0) (crossed a b) x
          ∙ ap₂ ◌+◌ (value_scaled m y (λ i. get_or b (suc i) 0) x) (crossed_value a b n x h)),
      ap (y *◌) (value_entries (suc m) b x (omega arith)),
    ))
  where
    m : ℕ
    m = length a + n

-- The product of a + X^v and b + X^w, v and w being the lengths

pub monic_times_length : (a b : List ℕ) → length (monic_times a b) ≡ length a + length b
unfolding monic_times
monic_times_length a b = tab_length (length a + length b) (coefficient a b)

times_symbols : (a b : List ℕ) → Every (◌< 65537) (monic_times a b)
unfolding monic_times coefficient
times_symbols a b = every_tab (◌< 65537) (length a + length b) _ (λ i h. mod-lt _ (lit< tt))

-- the numbers of one list times the highest coefficient of the other
shifted_value : (n : ℕ) (a : List ℕ) (w x : ℕ) → length a + w ≤ n
    → value (tab n (λ i. get_or (replicate w 0 ++ a) i 0)) x ≡ x ^ w * value a x
shifted_value n a w x h =
    value_entries n (replicate w 0 ++ a) x (omega (arith, length-append (replicate w 0) a, length-replicate {A = ℕ} w 0))
    ∙ value_append (replicate w 0) a x
    ∙ rw (value_zeros, length-replicate) (zero-add _)

pub monic_times_value : (a b : List ℕ) (x : ℕ)
    → value (monic_times a b) x + x ^ (length a + length b) ≈ (value a x + x ^ length a) * (value b x + x ^ length b)
unfolding monic_times coefficient
monic_times_value a b x =
    value_reduced n _ x +≈ ≈-refl
    ∘≈ ≈-of
    (omega (
      arith,
      value_sum n (crossed a b) (λ i. get_or (replicate (length b) 0 ++ a) i 0 + get_or (replicate (length a) 0 ++ b) i 0) x,
      value_sum n (λ i. get_or (replicate (length b) 0 ++ a) i 0) (λ i. get_or (replicate (length a) 0 ++ b) i 0) x,
      crossed_value a b (length b) x (omega arith),
      shifted_value n a (length b) x (omega arith),
      shifted_value n b (length a) x (omega arith),
      pow-add x (length a) (length b),
    ))
  where
    n : ℕ
    n = length a + length b

-- as many symbols with the values of the product at as many points are its coefficients
pub times_determined : (a b s xs : List ℕ) → length s ≡ length a + length b → length xs ≡ length s → Distinct xs → Every (◌< 65537) s
    → Every (λ x. value s x + x ^ length s ≈ (value a x + x ^ length a) * (value b x + x ^ length b)) xs → s ≡ monic_times a b
times_determined a b s xs long many apart small same =
    unique xs s (monic_times a b) (sym many) (monic_times_length a b ∙ sym long ∙ sym many) apart small (times_symbols a b)
    (every_map (λ x h. comb (h +≈ ≈-sym (monic_times_value a b x)) 0 0 (omega (arith, ap (x ^◌) long))) xs same)
