-- `decode_block::find_message` meets its contract, step by step.
-- Assumes nothing.
use native.Mathlib.Omega.{arith}
use Rattle.code.specs.Held.{held}
use Rattle.decode_block.proofs.Recovering.{in_range, marked_long, mark_asked, prepare_asked, multiply_asked, divide_asked, message_found}
use Rattle.decode_block.proofs.find_message.Goals as goal

pub overflow_mul-size : goal.overflow_mul-size
unfolding held
overflow_mul-size c = omega (arith, (in_range c.args.k c.args.n _ c.requires.0 c.args.cells.now c.requires.1 _ c.size-size.ensures).0)

pub overflow_mul-size-2 : goal.overflow_mul-size-2
unfolding held
overflow_mul-size-2 c = omega (arith, (in_range c.args.k c.args.n _ c.requires.0 c.args.cells.now c.requires.1 _ c.size-size.ensures).0)

pub offset_bounds-cells-size : goal.offset_bounds-cells-size
unfolding held
offset_bounds-cells-size c = omega (arith, (in_range c.args.k c.args.n _ c.requires.0 c.args.cells.now c.requires.1 _ c.size-size.ensures).0)

pub slice_bounds-mark_positions-end : goal.slice_bounds-mark_positions-end
unfolding held
slice_bounds-mark_positions-end c = omega (arith, (in_range c.args.k c.args.n _ c.requires.0 c.args.cells.now c.requires.1 _ c.size-size.ensures).1)

pub mark_positions-requires : goal.mark_positions-requires
unfolding held
mark_positions-requires c = mark_asked c.args.k c.args.n _ c.requires.0 c.args.cells.now c.requires.1 _ c.size-size.ensures

pub prepare-missing-requires : goal.prepare-missing-requires
unfolding held
prepare-missing-requires c = prepare_asked c.args.k c.args.n _ c.requires.0 c.args.cells.now c.requires.1 _ c.size-size.ensures _ c.mark_positions.ensures

pub slice_bounds-multiply_in-end : goal.slice_bounds-multiply_in-end
unfolding held
slice_bounds-multiply_in-end c = omega (arith, c.prepare-missing.auto.cells, marked_long c.args.k c.args.n _ c.requires.0 c.args.cells.now c.requires.1 _ c.size-size.ensures _ c.mark_positions.ensures, (in_range c.args.k c.args.n _ c.requires.0 c.args.cells.now c.requires.1 _ c.size-size.ensures).1)

pub multiply_in-requires : goal.multiply_in-requires
unfolding held
multiply_in-requires c = multiply_asked c.args.k c.args.n _ c.requires.0 c.args.cells.now c.requires.1 _ c.size-size.ensures _ c.mark_positions.ensures _ _ c.prepare-missing.auto.cells c.prepare-missing.ensures

pub divide-requires : goal.divide-requires
unfolding held
divide-requires c = divide_asked c.args.k c.args.n _ c.requires.0 c.args.cells.now c.requires.1 _ c.size-size.ensures _ c.mark_positions.ensures _ _ c.prepare-missing.auto.cells c.prepare-missing.ensures _ c.multiply_in.ensures

pub returns : goal.returns
unfolding held
returns c = message_found c.args.k c.args.n _ c.requires.0 c.args.cells.now c.requires.1 _ c.size-size.ensures _ c.mark_positions.ensures _ _ c.prepare-missing.auto.cells c.prepare-missing.ensures _ c.multiply_in.ensures c.divide.result c.divide.new.cells c.divide.ensures.divided
