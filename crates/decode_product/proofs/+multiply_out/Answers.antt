-- `decode_product::multiply_out` meets its contract, by induction on the number of cells: each half has fewer, and the products over the halves of the
-- points are multiplied.
-- Assumes nothing.
use mathlib.Core.Path.{◌≡◌, ap, sym}
use mathlib.Core.List.{List}
use Prim.Native.Nat.{ℕ, ◌/◌, ◌<◌, ◌≤◌}
use native.Mathlib.Omega.{arith}
use lib.ListN.{length}
use Rattle.decode_product.proofs.Joining.{spread_good, both_good, multiplied}
use Rattle.decode_product.proofs.Lending.{front_good, back_good}
use Rattle.decode_product.proofs.+multiply_out.Goals as goal

-- where there are more points than a few, there are halves to multiply
enough : (d : List ℕ) → 8 < length d / 2 → 4 ≤ length d
enough d h = omega arith

pub multiply_out-requires : goal.multiply_out-requires
multiply_out-requires t c =
    let good = spread_good c.args.cells.now c.requires (enough c.args.cells.now c.if-half-le-FEW.false) _ c.copy_within.ensures.len c.copy_within.ensures.after in
    let halved : length c.args.cells.now / 2 ≡ length c.copy_within.new.self / 2 = ap (λ (n : ℕ). n / 2) (sym c.copy_within.ensures.len) in (
      omega (arith, c.split_at_mut-front.ensures.front_len, c.decreases, c.if-half-le-FEW.false),
      front_good _ good _ halved _ c.split_at_mut-front.ensures.front,
    )

pub multiply_out-requires-2 : goal.multiply_out-requires-2
multiply_out-requires-2 t c =
    let good = spread_good c.args.cells.now c.requires (enough c.args.cells.now c.if-half-le-FEW.false) _ c.copy_within.ensures.len c.copy_within.ensures.after in
    let halved : length c.args.cells.now / 2 ≡ length c.copy_within.new.self / 2 = ap (λ (n : ℕ). n / 2) (sym c.copy_within.ensures.len) in (
      omega (arith, c.split_at_mut-front.ensures.back_len, c.copy_within.ensures.len, c.decreases, c.if-half-le-FEW.false),
      back_good _ good _ halved _ c.split_at_mut-front.ensures.back,
    )

pub multiply-requires : goal.multiply-requires
multiply-requires t c =
    both_good c.args.cells.now c.requires (enough c.args.cells.now c.if-half-le-FEW.false) _ c.copy_within.ensures.len c.copy_within.ensures.after _ _ c.split_at_mut-front.ensures.front c.split_at_mut-front.ensures.back
    c.multiply_out.new.cells c.multiply_out-2.new.cells c.multiply_out.auto.cells c.multiply_out.ensures c.multiply_out-2.auto.cells c.multiply_out-2.ensures

pub returns : goal.returns
returns t c =
    multiplied c.args.cells.now c.requires (enough c.args.cells.now c.if-half-le-FEW.false) _ c.copy_within.ensures.len c.copy_within.ensures.after _ _ c.split_at_mut-front.ensures.front c.split_at_mut-front.ensures.back
    c.multiply_out.new.cells c.multiply_out-2.new.cells c.multiply_out.auto.cells c.multiply_out.ensures c.multiply_out-2.auto.cells c.multiply_out-2.ensures _ c.multiply.ensures
