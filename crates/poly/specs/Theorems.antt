-- What is proved of the definitions, as statements: proofs/Theorems.antt proves each under the same name in small letters.
use Rattle.std.specs.Prelude.{◌≡◌, List, [], ◌∷◌, ◌++◌, ℕ, suc, ◌+◌, ◌-◌, ◌*◌, ◌^◌, ◌≤◌, length, get_or, replicate}
use Rattle.field.specs.Congruence.{◌≈◌}
use Rattle.field.specs.Field.{power}
use Rattle.field.specs.Roots.{root}
use Rattle.field.specs.Symbol.{Symbols}
use Rattle.poly.specs.Distinct.{Distinct}
use Rattle.poly.specs.Division.{quotient}
use Rattle.lists.specs.Every.{Every}
use Rattle.poly.specs.Interpolation.{through, GoesThrough}
use Rattle.poly.specs.Parts.{evens, odds}
use Rattle.poly.specs.Products.{times, vanishing}
use Rattle.poly.specs.Sum.{total}
use Rattle.lists.specs.Tab.{tab}
use Rattle.poly.specs.Value.{value}

-- The value of a polynomial

-- Horner's rule gives the plain sum of s_i·x^i
abbrev pub PlainSum : Type 0
PlainSum = (s : List ℕ) (x : ℕ) → value s x ≡ total (length s) (λ i. get_or s i 0 * x ^ i)

-- a value is that of the even places at x², plus x times that of the odd places
abbrev pub EvenOdd : Type 0
EvenOdd = (s : List ℕ) (x : ℕ) → value s x ≡ value (evens s) (x * x) + x * value (odds s) (x * x)

-- a polynomial is X - x times its quotient, plus its value at x: s(y) = s(x) + (y - x)·q(y), with nothing subtracted
abbrev pub Division : Type 0
Division =
    (a : ℕ) (s : List ℕ) (x y : ℕ)
    → value (a ∷ s) y + x * value (quotient a s x) y ≡ value (a ∷ s) x + y * value (quotient a s x) y

-- Polynomials are settled by their values

-- k coefficients that give 0 at k distinct points are all 0
abbrev pub VanishingIsZero : Type 0
VanishingIsZero =
    (xs s : List ℕ) → length s ≡ length xs → Distinct xs → Every (λ x. value s x ≈ 0) xs → Every (◌≈ 0) s

-- two lists of k symbols with the same values at k distinct points are equal
abbrev pub Unique : Type 0
Unique =
    (xs s t : List ℕ) → length s ≡ length xs → length t ≡ length xs → Distinct xs → Symbols s → Symbols t
    → Every (λ x. value s x ≈ value t x) xs → s ≡ t

-- the polynomial through k distinct points has k symbols and the given values
abbrev pub InterpolationFits : Type 0
InterpolationFits =
    (xs ys : List ℕ) → length xs ≡ length ys → Distinct xs
    → (length (through xs ys) ≡ length xs) × Symbols (through xs ys) × GoesThrough (through xs ys) xs ys

-- and no other list of k symbols has them
abbrev pub InterpolationUnique : Type 0
InterpolationUnique =
    (xs ys s : List ℕ) → length xs ≡ length ys → Distinct xs → length s ≡ length xs → Symbols s → GoesThrough s xs ys
    → s ≡ through xs ys

-- Products of factors X - z

-- the value of a product is the product of the values
abbrev pub ProductValue : Type 0
ProductValue = (f zs : List ℕ) (x : ℕ) → value (times f zs) x ≈ value f x * value (vanishing zs) x

-- the product over zs is 0 at each point of zs, and at no other
abbrev pub ProductRoots : Type 0
ProductRoots =
    (zs : List ℕ)
    → Every (λ z. value (vanishing zs) z ≈ 0) zs × ((x : ℕ) → Every (λ z. ¬ (z ≈ x)) zs → ¬ (value (vanishing zs) x ≈ 0))

-- the product over zs has the degree of zs's length, with the coefficient 1 there
abbrev pub ProductMonic : Type 0
ProductMonic =
    (zs : List ℕ) → (length (vanishing zs) ≡ suc (length zs)) × (get_or (vanishing zs) (length zs) 0 ≡ 1)

-- the product over N distinct points whose power N is 1 is X^N - 1; N is n + 1
abbrev pub AllRoots : Type 0
AllRoots =
    (n : ℕ) (zs : List ℕ) → length zs ≡ suc n → Distinct zs → Every (λ z. z ^ suc n ≈ 1) zs
    → vanishing zs ≡ 65536 ∷ (replicate n 0 ++ (1 ∷ []))

-- so the product over the powers of the root of order N = 2 ^ i is X^N - 1
abbrev pub RootsOfUnity : Type 0
RootsOfUnity =
    (i : ℕ) → i ≤ 16 → vanishing (tab (2 ^ i) (λ j. power (root i) j)) ≡ 65536 ∷ (replicate (2 ^ i - 1) 0 ++ (1 ∷ []))
