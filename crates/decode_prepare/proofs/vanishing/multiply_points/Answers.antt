-- `decode_prepare::vanishing::multiply_points` meets its contract: the points stand in the lent part, behind some of the zeros.
-- Assumes nothing.
use native.Mathlib.Omega.{arith}
use Rattle.field.proofs.Sizes.{size_small}
use Rattle.decode_prepare.proofs.Multiplying.{fits, out_asked, product_there, rest_stays}
use Rattle.decode_prepare.proofs.vanishing.multiply_points.Goals as goal

pub overflow_sub-size : goal.overflow_sub-size
overflow_sub-size c = omega (arith, fits _ _ _ c.requires.sizes.0 c.requires.sizes.1 c.requires.sizes.2 c.requires.sizes.3 c.requires.sizes.4 c.requires.points.0 c.requires.points.1 _ c.size-span.ensures)

pub overflow_add-size : goal.overflow_add-size
overflow_add-size c = omega (arith, fits _ _ _ c.requires.sizes.0 c.requires.sizes.1 c.requires.sizes.2 c.requires.sizes.3 c.requires.sizes.4 c.requires.points.0 c.requires.points.1 _ c.size-span.ensures, size_small _ _ c.requires.sizes.1)

pub slice_bounds-multiply_out-end : goal.slice_bounds-multiply_out-end
slice_bounds-multiply_out-end c = omega (arith, fits _ _ _ c.requires.sizes.0 c.requires.sizes.1 c.requires.sizes.2 c.requires.sizes.3 c.requires.sizes.4 c.requires.points.0 c.requires.points.1 _ c.size-span.ensures, c.requires.sizes.0)

pub multiply_out-requires : goal.multiply_out-requires
multiply_out-requires c = out_asked _ _ _ c.requires.sizes.0 c.requires.sizes.1 c.requires.sizes.2 c.requires.sizes.3 c.requires.sizes.4 c.requires.points.0 c.requires.points.1 _ c.size-span.ensures

pub returns : goal.returns
returns c = record { coefficients = product_there _ _ _ c.requires.sizes.0 c.requires.sizes.1 c.requires.sizes.2 c.requires.sizes.3 c.requires.sizes.4 c.requires.points.0 c.requires.points.1 _ c.size-span.ensures _ c.multiply_out.auto.cells c.multiply_out.ensures; rest = rest_stays _ _ _ c.requires.sizes.0 c.requires.sizes.1 c.requires.sizes.2 c.requires.sizes.3 c.requires.sizes.4 c.requires.points.0 c.requires.points.1 _ c.size-span.ensures _ c.multiply_out.auto.cells c.multiply_out.ensures }
