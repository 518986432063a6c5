-- `decode_product::transforms::multiply` meets its contract: both lists are transformed, their values multiplied and transformed back, and the 1 that came
-- round is taken off.
-- Assumes nothing.
use mathlib.Core.Path.{refl}
use native.Mathlib.Omega.{arith}
use lib.Dec.{lit<}
use Rattle.decode_product.proofs.Lending.{front_good, front_length, back_good, back_length}
use Rattle.decode_product.proofs.Unwrapping.{values_transformable, first_small, product_there}
use Rattle.decode_product.proofs.transforms.multiply.Goals as goal

pub transform_whole-requires : goal.transform_whole-requires
transform_whole-requires c = front_good c.args.cells.now c.requires _ refl _ c.split_at_mut-front.ensures.front

pub transform_whole-requires-2 : goal.transform_whole-requires-2
transform_whole-requires-2 c = back_good c.args.cells.now c.requires _ refl _ c.split_at_mut-front.ensures.back

pub multiply_values-requires : goal.multiply_values-requires
multiply_values-requires c =
    omega (
      arith,
      c.transform_whole.auto.cells,
      c.transform_whole-2.auto.cells,
      front_length c.args.cells.now c.requires _ refl _ c.split_at_mut-front.ensures.front,
      back_length c.args.cells.now c.requires _ refl _ c.split_at_mut-front.ensures.back,
    )

pub inverse-requires : goal.inverse-requires
inverse-requires c = values_transformable c.args.cells.now c.requires _ _ c.split_at_mut-front.ensures.front c.split_at_mut-front.ensures.back _ _ _ c.transform_whole.auto.cells c.transform_whole.ensures c.transform_whole-2.ensures c.multiply_values.ensures

pub difference-requires : goal.difference-requires
difference-requires c = (first_small c.args.cells.now c.requires _ _ c.split_at_mut-front.ensures.front c.split_at_mut-front.ensures.back _ _ _ c.transform_whole.auto.cells c.transform_whole.ensures c.transform_whole-2.ensures c.multiply_values.ensures c.inverse.new.list c.inverse.auto.list c.inverse.ensures, lit< tt)

pub returns : goal.returns
returns c = product_there c.args.cells.now c.requires _ _ c.split_at_mut-front.ensures.front c.split_at_mut-front.ensures.back _ _ _ c.transform_whole.auto.cells c.transform_whole.ensures c.transform_whole-2.ensures c.multiply_values.ensures c.inverse.new.list c.inverse.auto.list c.inverse.ensures _ _ c.difference.ensures.is
