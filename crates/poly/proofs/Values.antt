-- The laws of a polynomial's value: the plain sum, the split into even and odd places, and one step of Horner's rule as a loop takes it.
-- Assumes nothing.
use mathlib.Core.Path.{◌≡◌, refl, sym, ap, ◌∙◌}
use mathlib.Core.List.{List, [], ◌∷◌, ◌++◌}
use Prim.Native.Nat.{ℕ, zero, suc, ◌+◌, ◌*◌, ◌^◌, ◌%◌, ◌<◌, ◌≤◌, suc-le-suc}
use native.Mathlib.Nat.{pow-suc, pow-zero, zero-mul, zero-lt-suc, le_of_suc-le-suc, not-suc-le-zero}
use native.Mathlib.Omega.{arith}
use lib.ListN.{length, get_or, take, drop, replicate}
use lib.Seq.{drop-cons}
use Rattle.field.specs.Congruence.{◌≈◌}
use Rattle.field.proofs.Congruence.{≈-refl, ≈-of, ◌∘≈◌, ◌+≈◌, ◌·≈◌, mul-≈, mod-≈}
use Rattle.poly.specs.Parts.{evens, odds}
use Rattle.poly.specs.Sum.{total}
use Rattle.lists.specs.Tab.{tab}
use Rattle.poly.specs.Value.{value}
use Rattle.poly.proofs.Sum.{total_ext, total_scale, total_zero}
use Rattle.lists.proofs.Tab.{tab_length, tab_at}

pub plain_sum : (s : List ℕ) (x : ℕ) → value s x ≡ total (length s) (λ i. get_or s i 0 * x ^ i)
unfolding value total
plain_sum [] x = refl
plain_sum (a ∷ s) x =
    omega (
      arith,
      ap (a *◌) (pow-zero x),
      ap (x *◌) (plain_sum s x),
      total_scale (length s) (λ i. get_or s i 0 * x ^ i) x,
      total_ext (length s) (λ i. x * (get_or s i 0 * x ^ i)) (λ i. get_or s i 0 * x ^ suc i) (λ i h. rw pow-suc (omega arith)),
    )

pub split : (s : List ℕ) (x : ℕ) → value s x ≡ value (evens s) (x * x) + x * value (odds s) (x * x)
unfolding value evens odds
split [] x = omega arith
split (a ∷ s) x = omega (arith, ap (x *◌) (split s x))

pub value-≈ : (s : List ℕ) {x y : ℕ} → x ≈ y → value s x ≈ value s y
unfolding value
value-≈ [] h = ≈-refl
value-≈ (a ∷ s) h = ≈-refl +≈ mul-≈ h (value-≈ s h)

pub value_append : (s t : List ℕ) (x : ℕ) → value (s ++ t) x ≡ value s x + x ^ length s * value t x
unfolding value
value_append [] t x = rw pow-zero (omega arith)
value_append (a ∷ s) t x = rw pow-suc (omega (arith, ap (x *◌) (value_append s t x)))

pub value_zeros : (n x : ℕ) → value (replicate n 0) x ≡ 0
unfolding value
value_zeros zero x = refl
value_zeros (suc n) x = omega (arith, ap (x *◌) (value_zeros n x))

-- one step of Horner's rule, from the coefficients after index i to those from it on
pub horner_step : (s : List ℕ) (x i result : ℕ) → i < length s → result ≡ value (drop (suc i) s) x % 65537
    → (get_or s i 0 + x * result) % 65537 ≡ value (drop i s) x % 65537
unfolding value
horner_step s x i result inside held =
    rw (drop-cons s i 0) (≈-refl +≈ x ·≈ (≈-of held ∘≈ mod-≈ (value (drop (suc i) s) x))).mods

-- the value of a list that is given by its entries
pub value_tab : (n : ℕ) (f : ℕ → ℕ) (x : ℕ) → value (tab n f) x ≡ total n (λ i. f i * x ^ i)
value_tab n f x =
    plain_sum (tab n f) x
    ∙ ap (λ (m : ℕ). total m (λ i. get_or (tab n f) i 0 * x ^ i)) (tab_length n f)
    ∙ total_ext n _ _ (λ i h. ap (◌* x ^ i) (tab_at n f i h))

-- the plain sum over more indices than there are coefficients
pub longer_sum : (n : ℕ) (s : List ℕ) (x : ℕ) → length s ≤ n → value s x ≡ total n (λ i. get_or s i 0 * x ^ i)
unfolding value total
longer_sum n [] x h = sym (total_ext n (λ i. 0 * x ^ i) (λ i. 0) (λ i l. zero-mul (x ^ i)) ∙ total_zero n)
longer_sum zero (a ∷ s) x h = absurd (not-suc-le-zero h)
longer_sum (suc n) (a ∷ s) x h =
    omega (
      arith,
      ap (a *◌) (pow-zero x),
      ap (x *◌) (longer_sum n s x (le_of_suc-le-suc h)),
      total_scale n (λ i. get_or s i 0 * x ^ i) x,
      total_ext n (λ i. x * (get_or s i 0 * x ^ i)) (λ i. get_or s i 0 * x ^ suc i) (λ i l. rw pow-suc (omega arith)),
    )

-- coefficients 0 from an index on may be left out
pub value_front : (c : ℕ) (s : List ℕ) (x : ℕ) → ((i : ℕ) → c ≤ i → i < length s → get_or s i 0 ≡ 0) → value s x ≡ value (take c s) x
unfolding value
value_front zero [] x none = refl
value_front (suc c) [] x none = refl
value_front zero (a ∷ s) x none =
    omega (arith, none 0 (omega arith) (zero-lt-suc _), ap (x *◌) (value_front zero s x (λ i l m. none (suc i) (omega arith) (suc-le-suc m))))
value_front (suc c) (a ∷ s) x none =
    omega (arith, ap (x *◌) (value_front c s x (λ i l m. none (suc i) (suc-le-suc l) (suc-le-suc m))))
