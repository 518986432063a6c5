-- Halving gives the plain sums, which are the values at the powers of the root: once, by induction over the size.
-- Assumes nothing.
use mathlib.Core.Path.{◌≡◌, sym, ap, ap₂, ◌∙◌}
use mathlib.Core.List.{List, [], ◌∷◌, ◌++◌}
use Prim.Native.Nat.{ℕ, zero, suc, ◌+◌, ◌*◌, ◌^◌, ◌%◌, ◌<◌}
use native.Mathlib.Nat.{mul_comm, mod-eq_of_lt, pow-succ'}
use native.Mathlib.Omega.{arith}
use lib.Pow.{pow-add}
use lib.ListN.{length, get_or}
use Rattle.field.specs.Congruence.{◌≈◌}
use Rattle.field.specs.Field.{sum, difference, product, power}
use Rattle.field.specs.Symbol.{Symbols}
use Rattle.field.proofs.Congruence.{≈-refl, ≈-of, ≈-sym, ◌∘≈◌, ◌+≈◌, ◌·≈◌, mul-≈, pow-≈, mod-≈, comb, wrap}
use Rattle.field.proofs.Powers.{pow_times, pow_two, mul_pow}
use Rattle.field.proofs.Ring.{product-≈, power-≈}
use Rattle.poly.specs.Parts.{evens, odds}
use Rattle.poly.specs.Sum.{total}
use Rattle.lists.specs.Tab.{tab}
use Rattle.poly.specs.Value.{value}
use Rattle.poly.proofs.Parts.{parts_length, parts_at}
use Rattle.poly.proofs.Sum.{total_ext}
use Rattle.poly.proofs.Symbols.{tab_symbols}
use Rattle.lists.proofs.Tab.{tab_length, tab_at, tab_ext, tab_append}
use Rattle.poly.proofs.Values.{plain_sum, split, value-≈}
use Rattle.transform_halving.specs.Halving.{turned, joined, halving}
use Rattle.transform_halving.specs.Transform.{sums}

-- the values at 1, r, r^2, .., n of them
unfoldable pub values : ℕ → ℕ → List ℕ → List ℕ
values r n a = tab n (λ j. value a (r ^ j) % 65537)

-- an entry of the plain sums is a value
pub sum_value : (r : ℕ) (a : List ℕ) (j : ℕ) → total (length a) (λ i. get_or a i 0 * r ^ (i * j)) ≡ value a (r ^ j)
sum_value r a j =
    total_ext (length a) _ _ (λ i l. ap (get_or a i 0 *◌) (ap (r ^◌) (mul_comm i j) ∙ pow_times r j i)) ∙ sym (plain_sum a (r ^ j))

pub sums_values : (r : ℕ) (a : List ℕ) → sums r a ≡ values r (length a) a
unfolding sums values
sums_values r a = tab_ext (length a) _ _ (λ j h. ap (◌% 65537) (sum_value r a j))

-- they are as many symbols
pub sums_length : (r : ℕ) (a : List ℕ) → length (sums r a) ≡ length a
unfolding sums
sums_length r a = tab_length (length a) _

pub sums_symbols : (r : ℕ) (a : List ℕ) → Symbols (sums r a)
unfolding sums
sums_symbols r a = tab_symbols (length a) _ (λ j l. omega arith)

-- half way round stands minus one; at size 1 there is no half way
abbrev pub Halfway : ℕ → ℕ → Type 0
Halfway zero r = Unit {0}
Halfway (suc k) r = r ^ (2 ^ k) + 1 ≈ 0

square_halfway : (k r : ℕ) → Halfway (suc k) r → Halfway k (product r r)
square_halfway zero r h = tt
square_halfway (suc k) r h =
    (pow-≈ (product-≈ r r) (2 ^ k) ∘≈ ≈-of (sym (pow_two r (2 ^ k)) ∙ ap (r ^◌) (sym (pow-succ' 2 k)))) +≈ ≈-refl ∘≈ h

-- the powers of the square
square_power : (r j : ℕ) → product r r ^ j ≈ r ^ j * r ^ j
square_power r j = pow-≈ (product-≈ r r) j ∘≈ ≈-of (mul_pow r r j)

module _ (a : List ℕ) (r j : ℕ) where
  even : ℕ
  even = value (evens a) (product r r ^ j)

  odd : ℕ
  odd = value (odds a) (product r r ^ j)

  front : value a (r ^ j) ≈ even + r ^ j * odd
  unfolding even odd
  front =
      ≈-of (split a (r ^ j))
      ∘≈ value-≈ (evens a) (≈-sym (square_power r j)) +≈ r ^ j ·≈ value-≈ (odds a) (≈-sym (square_power r j))

  back : (h : ℕ) → r ^ h + 1 ≈ 0 → value a (r ^ (h + j)) ≈ even + 65536 * (r ^ j * odd)
  unfolding even odd
  back h half =
      ≈-of (split a (r ^ (h + j)))
      ∘≈ value-≈ (evens a) squared +≈ mul-≈ minus (value-≈ (odds a) squared)
      ∘≈ ≈-of {b = even + 65536 * (r ^ j * odd)} (omega arith)
    where
      minus : r ^ (h + j) ≈ 65536 * r ^ j
      minus = rw pow-add (comb (r ^ j ·≈ half) (r ^ j) 0 (omega arith))

      squared : r ^ (h + j) * r ^ (h + j) ≈ product r r ^ j
      squared = mul-≈ minus minus ∘≈ wrap 0 (65535 * (r ^ j * r ^ j)) (omega arith) ∘≈ ≈-sym (square_power r j)

pub values_at : (r n : ℕ) (a : List ℕ) (j : ℕ) → j < n → get_or (values r n a) j 0 ≡ value a (r ^ j) % 65537
unfolding values
values_at r n a j h = tab_at n _ j h

pub values_length : (r n : ℕ) (a : List ℕ) → length (values r n a) ≡ n
unfolding values
values_length r n a = tab_length n _

-- two halves' entries make two of the whole's
module _ (r n : ℕ) (a : List ℕ) (j : ℕ) (h : j < n) where
  q : ℕ
  q = product r r

  turned-≈ : turned r (values q n (odds a)) j ≈ r ^ j * odd a r j
  unfolding q odd
  turned-≈ =
      product-≈ (power r j) _
      ∘≈ mul-≈ (power-≈ r j) (≈-of (values_at q n (odds a) j h) ∘≈ mod-≈ _)

  even-≈ : get_or (values q n (evens a)) j 0 ≈ even a r j
  unfolding q even
  even-≈ = ≈-of (values_at q n (evens a) j h) ∘≈ mod-≈ _

  in_front : sum (get_or (values q n (evens a)) j 0) (turned r (values q n (odds a)) j) ≡ value a (r ^ j) % 65537
  unfolding sum
  in_front = (even-≈ +≈ turned-≈ ∘≈ ≈-sym (front a r j)).mods

  behind : r ^ n + 1 ≈ 0
      → difference (get_or (values q n (evens a)) j 0) (turned r (values q n (odds a)) j) ≡ value a (r ^ (n + j)) % 65537
  unfolding difference
  behind half = (even-≈ +≈ 65536 ·≈ turned-≈ ∘≈ ≈-sym (back a r j n half)).mods

-- the transforms of the halves, joined, are the transform of the whole
joins : (n r : ℕ) (a : List ℕ) → r ^ n + 1 ≈ 0
    → joined r (values (product r r) n (evens a)) (values (product r r) n (odds a)) ≡ values r (n + n) a
unfolding joined q
joins n r a half =
    rw (values_length (product r r) n (evens a))
    (ap₂ ◌++◌ (tab_ext n _ _ (in_front r n a)) (tab_ext n _ _ (λ j h. behind r n a j h half))
    ∙ (unfold values in sym (tab_append n n (λ j. value a (r ^ j) % 65537))))

-- a list of one symbol is its own value
single : (r : ℕ) (a : List ℕ) → length a ≡ 1 → Symbols a → a ≡ values r 1 a
unfolding values value tab
single r [] e small = absurd (omega arith)
single r (x ∷ []) e small = ap (◌∷ []) (sym (ap (◌% 65537) (omega arith) ∙ mod-eq_of_lt (small 0 (omega arith))))
single r (x ∷ y ∷ s) e small = absurd (omega arith)

even_symbols : (a : List ℕ) → Symbols a → Symbols (evens a)
even_symbols a small i h = rw (parts_at a i).0 (small (i + i) (omega (arith, (parts_length a).0)))

odd_symbols : (a : List ℕ) → Symbols a → Symbols (odds a)
odd_symbols a small i h = rw (parts_at a i).1 (small (suc (i + i)) (omega (arith, (parts_length a).1)))

pub halving_values : (k r : ℕ) (a : List ℕ) → length a ≡ 2 ^ k → Symbols a → Halfway k r
    → halving k r a ≡ values r (2 ^ k) a
unfolding halving
halving_values zero r a e small half = single r a e small
halving_values (suc k) r a e small half =
    ap₂ (joined r)
    (halving_values k (product r r) (evens a) (omega (arith, (parts_length a).0)) (even_symbols a small) (square_halfway k r half))
    (halving_values k (product r r) (odds a) (omega (arith, (parts_length a).1)) (odd_symbols a small) (square_halfway k r half))
    ∙ joins (2 ^ k) r a half
    ∙ ap (λ (n : ℕ). values r n a) (omega arith)
