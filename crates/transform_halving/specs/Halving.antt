-- The transform by halves: "A transform of N numbers rests on two transforms of N/2 numbers, those of the even and of the odd places,
-- down to size 1, which changes nothing."
use Rattle.std.specs.Prelude.{List, ◌++◌, ℕ, zero, suc, length, get_or}
use Rattle.field.specs.Field.{sum, difference, product, power}
use Rattle.poly.specs.Parts.{evens, odds}
use Rattle.lists.specs.Tab.{tab}

-- r^j times the number at j
abbrev pub turned : ℕ → List ℕ → ℕ → ℕ
turned r o j = product (power r j) (get_or o j 0)

-- the transforms E and O of the halves make the whole: E_j + r^j · O_j in front, E_j - r^j · O_j behind
unfoldable pub joined : ℕ → List ℕ → List ℕ → List ℕ
joined r e o =
    tab (length e) (λ j. sum (get_or e j 0) (turned r o j)) ++ tab (length e) (λ j. difference (get_or e j 0) (turned r o j))

-- of 2 ^ level numbers, at a root r; the halves' root is its square
unfoldable pub halving : ℕ → ℕ → List ℕ → List ℕ
halving zero r a = a
halving (suc level) r a = joined r (halving level (product r r) (evens a)) (halving level (product r r) (odds a))
