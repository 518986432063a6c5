-- Products of factors X - z: their length and symbols, their value as a product, their zeros, and their last coefficient.
-- Assumes nothing.
use mathlib.Core.Path.{◌≡◌, refl, ap, ◌∙◌}
use mathlib.Core.List.{List, [], ◌∷◌, ◌++◌}
use Prim.Native.Nat.{ℕ, suc, ◌+◌, ◌*◌, ◌%◌, ◌<◌}
use native.Mathlib.Nat.{zero-add, add-zero, suc-add, mod-eq_of_lt}
use native.Mathlib.Omega.{arith}
use lib.Dec.{lit<}
use lib.ListN.{length, get_or}
use Rattle.field.specs.Congruence.{◌≈◌}
use Rattle.field.proofs.Congruence.{≈-of, ≈-sym, ◌∘≈◌, ◌+≈◌, ◌·≈◌, comb}
use Rattle.lists.specs.Every.{Every}
use Rattle.poly.specs.Raised.{raised}
use Rattle.poly.specs.Products.{times, vanishing}
use Rattle.poly.specs.Value.{value}
use Rattle.poly.proofs.Counting.{cancel}
use Rattle.lists.proofs.Every.{every_map, every_at}
use Rattle.poly.proofs.Raised.{raised_length, raised_symbols, raised_value, raised_last}

one_symbol : Every (◌< 65537) (1 ∷ [])
unfolding Every
one_symbol = (lit< tt, tt)

pub times_append : (f xs ys : List ℕ) → times f (xs ++ ys) ≡ times (times f ys) xs
unfolding times
times_append f [] ys = refl
times_append f (x ∷ xs) ys = ap (raised x 0) (times_append f xs ys)

pub vanishing_append : (xs ys : List ℕ) → vanishing (xs ++ ys) ≡ times (vanishing ys) xs
unfolding vanishing
vanishing_append xs ys = times_append (1 ∷ []) xs ys

pub times_length : (f zs : List ℕ) → length (times f zs) ≡ length zs + length f
unfolding times
times_length f [] = omega arith
times_length f (z ∷ zs) = omega (arith, raised_length z 0 (times f zs), times_length f zs)

pub times_symbols : (f zs : List ℕ) → Every (◌< 65537) f → Every (◌< 65537) (times f zs)
unfolding times
times_symbols f [] low = low
times_symbols f (z ∷ zs) low = raised_symbols z 0 (times f zs)

pub vanishing_length : (zs : List ℕ) → length (vanishing zs) ≡ suc (length zs)
unfolding vanishing
vanishing_length zs = omega (arith, times_length (1 ∷ []) zs)

pub vanishing_symbols : (zs : List ℕ) → Every (◌< 65537) (vanishing zs)
unfolding vanishing
vanishing_symbols zs = times_symbols (1 ∷ []) zs one_symbol

-- The value of a product

-- one factor more: the value times x - z
pub times_value : (f zs : List ℕ) (z x : ℕ) → value (times f (z ∷ zs)) x + z * value (times f zs) x ≈ x * value (times f zs) x
unfolding times
times_value f zs z x = raised_value z 0 (times f zs) x ∘≈ ≈-of (omega arith)

pub product_value : (f zs : List ℕ) (x : ℕ) → value (times f zs) x ≈ value f x * value (vanishing zs) x
unfolding times vanishing value
product_value f [] x = ≈-of (omega arith)
product_value f (z ∷ zs) x =
    comb
    (times_value f zs z x +≈ (x + 65536 * z) ·≈ product_value f zs x +≈ value f x ·≈ ≈-sym (times_value (1 ∷ []) zs z x))
    (z * value (times f zs) x)
    (z * (value f x * value (vanishing zs) x))
    (omega arith)

-- Its zeros

pub times_roots : (f zs : List ℕ) → Every (λ z. value (times f zs) z ≈ 0) zs
unfolding Every
times_roots f [] = tt
times_roots f (z ∷ zs) = (
  comb (times_value f zs z z) 0 0 (omega arith),
  every_map (λ x h. comb (times_value f zs z x +≈ x ·≈ h +≈ ≈-sym (z ·≈ h)) 0 0 (omega arith)) zs (times_roots f zs),
)

pub vanishing_roots : (zs : List ℕ) → Every (λ z. value (vanishing zs) z ≈ 0) zs
unfolding vanishing
vanishing_roots zs = times_roots (1 ∷ []) zs

pub vanishing_apart : (zs : List ℕ) (x : ℕ) → Every (λ z. ¬ (z ≈ x)) zs → ¬ (value (vanishing zs) x ≈ 0)
unfolding times vanishing value Every
vanishing_apart [] x apart none = omega (arith, none.mods)
vanishing_apart (z ∷ zs) x apart none =
    vanishing_apart zs x apart.1
    (cancel z x (value (vanishing zs) x) (λ e. apart.0 (≈-sym e))
    (comb (times_value (1 ∷ []) zs z x +≈ ≈-sym none) 0 0 (omega arith)))

-- Its last coefficient

pub times_last : (f zs : List ℕ) (n : ℕ) → Every (◌< 65537) f → length f ≡ suc n → get_or (times f zs) (length zs + n) 0 ≡ get_or f n 0
unfolding times
times_last f [] n low size = rw zero-add
times_last f (z ∷ zs) n low size =
    rw suc-add
    (raised_last z 0 (times f zs) (length zs + n) (omega (arith, times_length f zs))
    ∙ ap (◌% 65537) (times_last f zs n low size)
    ∙ mod-eq_of_lt (every_at (◌< 65537) f low n (omega arith)))

pub vanishing_last : (zs : List ℕ) → get_or (vanishing zs) (length zs) 0 ≡ 1
unfolding vanishing
vanishing_last zs = rw add-zero at (times_last (1 ∷ []) zs 0 one_symbol refl)
