-- The proofs of specs/Theorems.antt, each under its name there in small letters.
-- Assumes nothing.
use mathlib.Core.Path.{◌≡◌, sym, ap, ◌∙◌}
use mathlib.Core.Logic.{inl, inr}
use Prim.Native.Nat.{ℕ, zero, suc, ◌-◌, ◌^◌, ◌<◌, suc-le-suc}
use native.Mathlib.Nat.{eq-zero-or-pos, not-suc-le-zero, ne_of_gt}
use native.Mathlib.Omega.{arith}
use lib.Dec.{lit<}
use Rattle.field.specs.Congruence.{◌≈◌}
use Rattle.field.specs.Field.{product, power}
use Rattle.field.specs.Points.{root_of, point_of}
use Rattle.field.specs.Roots.{root}
use Rattle.field.specs.Size.{level_of, size_of}
use Rattle.field.specs.Theorems.{CommutativeRing, Inverses, NoZeroDivisors, RootSquares, RootPowers, RootOrders, RootHalves, RootPowersDistinct, SizeSmallest, RootOfSize, PointsDistinct, SymbolSettled}
use Rattle.field.proofs.Congruence.{reduced}
use Rattle.field.proofs.Fermat.{inverse-≈, no_divisors}
use Rattle.field.proofs.Ring as Ring
use Rattle.field.proofs.Roots as Roots
use Rattle.field.proofs.Sizes.{level_le, level_size, size_enough, size_least}

pub commutative_ring : CommutativeRing
commutative_ring =
    record {
      sum_closed = Ring.sum_lt;
      difference_closed = Ring.difference_lt;
      product_closed = Ring.product_lt;
      sum_commutes = Ring.sum_comm;
      sum_associates = Ring.sum_assoc;
      sum_zero = λ a h. Ring.sum_zero h;
      difference_undoes_sum = λ a b h. Ring.difference_sum h b;
      sum_undoes_difference = λ a b h. Ring.sum_difference h b;
      product_commutes = Ring.product_comm;
      product_associates = Ring.product_assoc;
      product_one = λ a h. Ring.product_one h;
      product_distributes = Ring.product_sum;
    }

-- a symbol congruent to 0 is 0
zero_symbol : {a : ℕ} → a < 65537 → a ≈ 0 → a ≡ 0
zero_symbol h e = reduced e h (lit< tt)

pub inverses : Inverses
unfolding product
inverses x some low = (inverse-≈ x (λ e. ne_of_gt some (zero_symbol low e))).mods

pub no_zero_divisors : NoZeroDivisors
unfolding product
no_zero_divisors a b la lb e =
    elim (eq-zero-or-pos a) [
      | inl none ↦ inl none
      | inr some ↦ inr (zero_symbol lb (no_divisors a b (record { mods = e }) (λ z. ne_of_gt some (zero_symbol la z))))
    ]

pub root_squares : RootSquares
root_squares = Roots.root_square

pub root_powers : RootPowers
root_powers i h = Roots.root_is i (suc-le-suc h)

pub root_orders : RootOrders
root_orders i h = Roots.root_order i (suc-le-suc h)

pub root_halves : RootHalves
unfolding power
root_halves zero some h = absurd (not-suc-le-zero some)
root_halves (suc i) some h =
    ap (λ (n : ℕ). power (root (suc i)) (2 ^ n)) {x = suc i - 1} {y = i} (omega arith)
    ∙ omega (arith, (Roots.root_half i h).mods)

pub root_powers_distinct : RootPowersDistinct
unfolding power
root_powers_distinct i h a b la lb e = Roots.powers_distinct (root i) (2 ^ i) (root_orders i h) a b la lb (record { mods = e })

pub size_smallest : SizeSmallest
size_smallest n h = (size_enough n h, size_least n)

pub root_of_size : RootOfSize
unfolding root_of size_of
root_of_size n = rw level_size (root_orders (level_of n) (level_le n))

pub points_distinct : PointsDistinct
unfolding point_of root_of size_of
points_distinct n i j li lj e = root_powers_distinct (level_of n) (level_le n) i j li lj (simp level_size at e)

pub symbol_settled : SymbolSettled
symbol_settled v r s p q = p.is ∙ sym q.is
