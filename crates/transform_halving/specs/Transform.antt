-- The transform and its inverse, as document 01 defines them under "Transform": plain sums modulo 65537.
use Rattle.std.specs.Prelude.{List, ℕ, ◌*◌, ◌^◌, ◌%◌, length, get_or}
use Rattle.field.specs.Field.{product, inverse}
use Rattle.field.specs.Points.{root_of}
use Rattle.poly.specs.Sum.{total}
use Rattle.lists.specs.Tab.{tab}

-- A_j = sum over i of a_i · r^(ij), for j = 0 to N - 1
unfoldable pub sums : ℕ → List ℕ → List ℕ
sums r a = tab (length a) (λ j. total (length a) (λ i. get_or a i 0 * r ^ (i * j)) % 65537)

-- "r the root of order N"
unfoldable pub transform_of : List ℕ → List ℕ
transform_of a = sums (root_of (length a)) a

-- a_j = (1/N) · sum over i of A_i · r^(-ij)
unfoldable pub inverse_of : List ℕ → List ℕ
inverse_of a =
    tab (length a)
    (λ j. product (inverse (length a)) (total (length a) (λ i. get_or a i 0 * inverse (root_of (length a)) ^ (i * j))))
