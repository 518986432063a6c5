-- Halving in place: a list whose even places are its front half and whose odd places are its back half, at every size (Order.antt), is halved
-- where it stands.
use Rattle.std.specs.Prelude.{List, ℕ, zero, suc, ◌^◌, ◌/◌, length, take, drop}
use Rattle.field.specs.Field.{product}
use Rattle.transform_halving.specs.Halving.{joined}

-- the front and the back half, joined
abbrev pub joined_halves : ℕ → List ℕ → List ℕ
joined_halves r a = joined r (take (length a / 2) a) (drop (length a / 2) a)

-- of 2 ^ level numbers, at a root r; the halves' root is its square
unfoldable pub halved : ℕ → ℕ → List ℕ → List ℕ
halved zero r a = a
halved (suc level) r a =
    joined r (halved level (product r r) (take (2 ^ level) a)) (halved level (product r r) (drop (2 ^ level) a))
