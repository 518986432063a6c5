-- The laws of plain sums: a factor comes out, sums of sums are exchanged, and where all terms but one are 0 that one is left.
-- Assumes nothing.
use mathlib.Core.Path.{◌≡◌, refl, sym, ap, ◌∙◌}
use Prim.Native.Nat.{ℕ, zero, suc, ◌+◌, ◌*◌, ◌<◌, suc-le-suc}
use native.Mathlib.Nat.{zero-add, suc-add, zero-lt-suc, le_of_suc-le-suc, not-suc-le-zero, suc_inj}
use native.Mathlib.Omega.{arith}
use Rattle.field.specs.Congruence.{◌≈◌}
use Rattle.field.proofs.Congruence.{≈-refl, ≈-of, ◌∘≈◌, ◌+≈◌}
use Rattle.poly.specs.Sum.{total}

pub total_ext : (n : ℕ) (f g : ℕ → ℕ) → ((i : ℕ) → i < n → f i ≡ g i) → total n f ≡ total n g
unfolding total
total_ext zero f g e = refl
total_ext (suc n) f g e =
    cc (e 0 (zero-lt-suc n), total_ext n (λ i. f (suc i)) (λ i. g (suc i)) (λ i h. e (suc i) (suc-le-suc h)))

pub total-≈ : (n : ℕ) (f g : ℕ → ℕ) → ((i : ℕ) → i < n → f i ≈ g i) → total n f ≈ total n g
unfolding total
total-≈ zero f g e = ≈-refl
total-≈ (suc n) f g e =
    e 0 (zero-lt-suc n) +≈ total-≈ n (λ i. f (suc i)) (λ i. g (suc i)) (λ i h. e (suc i) (suc-le-suc h))

pub total_scale : (n : ℕ) (f : ℕ → ℕ) (c : ℕ) → total n (λ i. c * f i) ≡ c * total n f
unfolding total
total_scale zero f c = omega arith
total_scale (suc n) f c = omega (arith, total_scale n (λ i. f (suc i)) c)

total_add : (n : ℕ) (f g : ℕ → ℕ) → total n (λ i. f i + g i) ≡ total n f + total n g
unfolding total
total_add zero f g = refl
total_add (suc n) f g = omega (arith, total_add n (λ i. f (suc i)) (λ i. g (suc i)))

pub total_zero : (n : ℕ) → total n (λ i. 0) ≡ 0
unfolding total
total_zero zero = refl
total_zero (suc n) = omega (arith, total_zero n)

-- where a sum is 0 each term is
pub total_none : (n : ℕ) (f : ℕ → ℕ) → total n f ≡ 0 → (i : ℕ) → i < n → f i ≡ 0
unfolding total
total_none zero f none i h = absurd (not-suc-le-zero h)
total_none (suc n) f none zero h = omega arith
total_none (suc n) f none (suc i) h = total_none n (λ j. f (suc j)) (omega arith) i (le_of_suc-le-suc h)

pub total_swap : (m n : ℕ) (f : ℕ → ℕ → ℕ) → total m (λ i. total n (f i)) ≡ total n (λ j. total m (λ i. f i j))
unfolding total
total_swap zero n f = sym (total_zero n)
total_swap (suc m) n f =
    ap (total n (f 0) +◌) (total_swap m n (λ i. f (suc i))) ∙ sym (total_add n (f 0) (λ j. total m (λ i. f (suc i) j)))

pub total_single : (n : ℕ) (f : ℕ → ℕ) (l : ℕ) → l < n → ((i : ℕ) → i < n → ¬ (i ≡ l) → f i ≈ 0) → total n f ≈ f l
unfolding total
total_single zero f l h none = absurd (not-suc-le-zero h)
total_single (suc n) f zero h none =
    ≈-refl {a = f 0} +≈ (total-≈ n (λ i. f (suc i)) (λ i. 0) (λ i l. none (suc i) (suc-le-suc l) (λ e. omega arith)) ∘≈ ≈-of (total_zero n))
    ∘≈ ≈-of {b = f 0} (omega arith)
total_single (suc n) f (suc l) h none =
    none 0 (zero-lt-suc n) (λ e. omega arith)
    +≈ total_single n (λ i. f (suc i)) l (le_of_suc-le-suc h) (λ i k d. none (suc i) (suc-le-suc k) (λ e. d (suc_inj e)))
    ∘≈ ≈-of {b = f (suc l)} (omega arith)

-- a sum in two parts, and one term more
pub total_append : (m n : ℕ) (f : ℕ → ℕ) → total (m + n) f ≡ total m f + total n (λ i. f (m + i))
unfolding total
total_append zero n f = rw zero-add (total_ext n f (λ i. f (0 + i)) (λ i h. ap f (sym (zero-add i))) ∙ sym (zero-add _))
total_append (suc m) n f =
    rw suc-add
    (omega (
      arith,
      total_append m n (λ i. f (suc i)),
      total_ext n (λ i. f (suc (m + i))) (λ i. f (suc m + i)) (λ i h. ap f (sym (suc-add m i))),
    ))

pub total_more : (n : ℕ) (f : ℕ → ℕ) → total (n + 1) f ≡ total n f + f n
unfolding total
total_more n f = total_append n 1 f ∙ ap (total n f +◌) (omega (arith, ap f {x = n + 0} {y = n} (omega arith)))
