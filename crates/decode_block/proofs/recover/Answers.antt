-- `decode_block::recover` meets its contract: the message where one fits, else DISAGREE, and the cells cleared.
-- Assumes nothing.
use mathlib.Core.Path.{◌∙◌}
use Prim.Native.Nat.{◌-◌}
use native.Mathlib.Omega.{arith}
use lib.ListN.{length-take}
use Rattle.decode_block.proofs.Recovering.{cells_enough, recovered, disagreed}
use Rattle.decode_block.proofs.recover.Goals as goal

pub find_message-requires : goal.find_message-requires
find_message-requires c = (c.requires.0, c.requires.2)

pub slice_bounds-copy-end : goal.slice_bounds-copy-end
slice_bounds-copy-end c = omega (arith, c.find_message.auto.cells, cells_enough c.args.k c.args.n _ c.requires.0 c.args.cells.now c.requires.2)

pub copy-requires : goal.copy-requires
copy-requires c = omega (arith, length-take (c.args.k - 0) c.find_message.new.cells, c.requires.1)

pub shape_of-out-then-find_message : goal.shape_of-out-then-find_message
shape_of-out-then-find_message c = c.copy.auto.to

pub shape_of-cells-then-find_message : goal.shape_of-cells-then-find_message
shape_of-cells-then-find_message c = c.clear.auto.cells ∙ c.find_message.auto.cells

pub returns-then-find_message : goal.returns-then-find_message
returns-then-find_message c = recovered c.args.k c.args.n _ c.args.out.now c.args.cells.now c.find_message.new.cells c.clear.new.cells c.requires.2 c.find_message.auto.cells c.clear.ensures _ _ c.find_message.ensures c.if-find_message.true c.copy.ensures

pub shape_of-cells : goal.shape_of-cells
shape_of-cells c = c.clear-2.auto.cells ∙ c.find_message.auto.cells

pub returns : goal.returns
returns c = disagreed c.args.k c.args.n _ c.args.out.now c.args.cells.now c.find_message.new.cells c.clear-2.new.cells c.requires.2 c.find_message.auto.cells c.clear-2.ensures _ c.find_message.ensures c.if-find_message.false
