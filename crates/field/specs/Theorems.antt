-- What is proved of the definitions, as statements: proofs/Theorems.antt proves each under the same name in small letters.
use Rattle.std.specs.Prelude.{◌≡◌, ◌⊎◌, ℕ, suc, ◌-◌, ◌^◌, ◌<◌, ◌≤◌}
use Rattle.field.specs.Field.{sum, difference, product, power, inverse}
use Rattle.field.specs.Points.{root_of, point_of}
use Rattle.field.specs.Roots.{root, HasOrder}
use Rattle.field.specs.Size.{size_of}
use Rattle.field.specs.Symbol.{IsSymbol}

-- The field is a commutative ring

pub record CommutativeRing : Type 0 where
  pub sum_closed : (a b : ℕ) → sum a b < 65537
  pub difference_closed : (a b : ℕ) → difference a b < 65537
  pub product_closed : (a b : ℕ) → product a b < 65537
  pub sum_commutes : (a b : ℕ) → sum a b ≡ sum b a
  pub sum_associates : (a b c : ℕ) → sum (sum a b) c ≡ sum a (sum b c)
  pub sum_zero : (a : ℕ) → a < 65537 → sum a 0 ≡ a
  pub difference_undoes_sum : (a b : ℕ) → a < 65537 → difference (sum a b) b ≡ a
  pub sum_undoes_difference : (a b : ℕ) → a < 65537 → sum (difference a b) b ≡ a
  pub product_commutes : (a b : ℕ) → product a b ≡ product b a
  pub product_associates : (a b c : ℕ) → product (product a b) c ≡ product a (product b c)
  pub product_one : (a : ℕ) → a < 65537 → product a 1 ≡ a
  pub product_distributes : (a b c : ℕ) → product a (sum b c) ≡ sum (product a b) (product a c)

-- every symbol but 0 has an inverse
abbrev pub Inverses : Type 0
Inverses = (x : ℕ) → 0 < x → x < 65537 → product x (inverse x) ≡ 1

abbrev pub NoZeroDivisors : Type 0
NoZeroDivisors = (a b : ℕ) → a < 65537 → b < 65537 → product a b ≡ 0 → (a ≡ 0) ⊎ (b ≡ 0)

-- The table of roots

-- each root is the square of the next one
abbrev pub RootSquares : Type 0
RootSquares = (i : ℕ) → i < 16 → product (root (suc i)) (root (suc i)) ≡ root i

-- the root of order 2 ^ i is 3 to the power 2 ^ (16 - i)
abbrev pub RootPowers : Type 0
RootPowers = (i : ℕ) → i ≤ 16 → root i ≡ power 3 (2 ^ (16 - i))

abbrev pub RootOrders : Type 0
RootOrders = (i : ℕ) → i ≤ 16 → HasOrder (root i) (2 ^ i)

-- the power 2 ^ (i - 1) of root i is 65536
abbrev pub RootHalves : Type 0
RootHalves = (i : ℕ) → 0 < i → i ≤ 16 → power (root i) (2 ^ (i - 1)) ≡ 65536

abbrev pub RootPowersDistinct : Type 0
RootPowersDistinct = (i : ℕ) → i ≤ 16 → (a b : ℕ) → a < 2 ^ i → b < 2 ^ i → power (root i) a ≡ power (root i) b → a ≡ b

-- Positions and points

-- N is the smallest power of two that is at least n
abbrev pub SizeSmallest : Type 0
SizeSmallest = (n : ℕ) → n ≤ 65536 → (n ≤ size_of n) × ((e : ℕ) → n ≤ 2 ^ e → size_of n ≤ 2 ^ e)

-- the root that n gives has order N
abbrev pub RootOfSize : Type 0
RootOfSize = (n : ℕ) → HasOrder (root_of (size_of n)) (size_of n)

-- the N points of a code word are distinct
abbrev pub PointsDistinct : Type 0
PointsDistinct =
    (n i j : ℕ) → i < size_of n → j < size_of n → point_of (size_of n) i ≡ point_of (size_of n) j → i ≡ j

-- Each promise settles the answer: two outcomes that meet it are equal

-- what a function of this crate promises of a symbol settles it too
abbrev pub SymbolSettled : Type 0
SymbolSettled = (v r s : ℕ) → IsSymbol r v → IsSymbol s v → r ≡ s
