-- What is proved of the definitions, as statements: proofs/Theorems.antt proves each under the same name in small letters.
use Rattle.std.specs.Prelude.{◌≡◌, List, [], ◌∷◌, ℕ, ◌^◌, ◌%◌, ◌<◌, ◌≤◌, length, get_or}
use Rattle.field.specs.Points.{point_of}
use Rattle.field.specs.Roots.{root}
use Rattle.field.specs.Symbol.{Symbols}
use Rattle.poly.specs.Value.{value}
use Rattle.transform_halving.specs.Halving.{halving}
use Rattle.transform_halving.specs.InPlace.{halved}
use Rattle.transform_halving.specs.Order.{arranged}
use Rattle.transform_halving.specs.Transform.{transform_of, inverse_of}

-- The transform is the plain sum: e runs over the sizes 1, 2, 4 up to 65536 of the table of roots

-- halving by even and odd places, down to size 1, gives the plain sums
abbrev pub HalvingIsSum : Type 0
HalvingIsSum = (e : ℕ) → e ≤ 16 → (a : List ℕ) → length a ≡ 2 ^ e → Symbols a → halving e (root e) a ≡ transform_of a

-- what the code does, halving side by side in one arranged list, is halving by even and odd places
abbrev pub HalvedIsHalving : Type 0
HalvedIsHalving = (e : ℕ) → e ≤ 16 → (r : ℕ) (a : List ℕ) → length a ≡ 2 ^ e → halved e r (arranged a) ≡ halving e r a

-- entry j of the transform is the value of the polynomial a at the point of position j
abbrev pub TransformIsValue : Type 0
TransformIsValue = (a : List ℕ) (j : ℕ) → j < length a → get_or (transform_of a) j 0 ≡ value a (point_of (length a) j) % 65537

-- the results are as many symbols
abbrev pub TransformSymbols : Type 0
TransformSymbols =
    (a : List ℕ) → (length (transform_of a) ≡ length a) × Symbols (transform_of a) × (length (inverse_of a) ≡ length a) × Symbols (inverse_of a)

-- The inverse undoes the transform, and the transform the inverse

abbrev pub InverseUndoes : Type 0
InverseUndoes = (e : ℕ) → e ≤ 16 → (a : List ℕ) → length a ≡ 2 ^ e → Symbols a → inverse_of (transform_of a) ≡ a

abbrev pub TransformUndoes : Type 0
TransformUndoes = (e : ℕ) → e ≤ 16 → (a : List ℕ) → length a ≡ 2 ^ e → Symbols a → transform_of (inverse_of a) ≡ a

-- The worked numbers P1 to P4

pub record WorkedNumbers : Type 0 where
  pub p1 : transform_of (5 ∷ []) ≡ 5 ∷ []
  pub p2 : transform_of (1 ∷ 2 ∷ []) ≡ 3 ∷ 65536 ∷ []
  pub p3 : transform_of (1 ∷ 2 ∷ 0 ∷ 0 ∷ []) ≡ 3 ∷ 65026 ∷ 65536 ∷ 513 ∷ []
  pub p4 : inverse_of (3 ∷ 65026 ∷ 65536 ∷ 513 ∷ []) ≡ 1 ∷ 2 ∷ 0 ∷ 0 ∷ []
