-- Products of X - z over a list of points, by their coefficients below the highest, which is 1: a list a of w numbers stands for
-- a_0 + a_1·X + .. + X^w, and is multiplied so.
use Rattle.std.specs.Prelude.{List, ◌∷◌, ◌++◌, ℕ, suc, ◌+◌, ◌-◌, ◌*◌, ◌%◌, length, get_or, take, replicate}
use Rattle.poly.specs.Products.{vanishing}
use Rattle.poly.specs.Sum.{total}
use Rattle.lists.specs.Tab.{tab}

-- the coefficients of the product of X - z over zs below the highest
unfoldable pub lowers_of : List ℕ → List ℕ
lowers_of zs = take (length zs) (vanishing zs)

-- the sum of the products a_j·b_(i-j): the coefficient of X^i in the product of two polynomials
unfoldable pub crossed : List ℕ → List ℕ → ℕ → ℕ
crossed a b i = total (suc i) (λ j. get_or a j 0 * get_or b (i - j) 0)

-- a part of such a sum: the products of a_from up to a_(to-1) with b_(to-1) down to b_from
unfoldable pub run : List ℕ → List ℕ → ℕ → ℕ → ℕ
run a b from to = total (to - from) (λ j. get_or a (from + j) 0 * get_or b (to - suc j) 0)

-- the coefficient of X^i in (a + X^v)·(b + X^w), v and w being the lengths, for i below v + w: beside the products of the numbers, those of
-- one list with the highest coefficient of the other
unfoldable pub coefficient : List ℕ → List ℕ → ℕ → ℕ
coefficient a b i = (crossed a b i + (get_or (replicate (length b) 0 ++ a) i 0 + get_or (replicate (length a) 0 ++ b) i 0)) % 65537

-- the product's coefficients below the highest
unfoldable pub monic_times : List ℕ → List ℕ → List ℕ
monic_times a b = tab (length a + length b) (coefficient a b)

-- with the highest coefficient, and zeros behind it up to twice the length
abbrev pub padded_monic : List ℕ → List ℕ
padded_monic a = a ++ (1 ∷ replicate (length a - 1) 0)
