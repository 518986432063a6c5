-- `code::spread` meets its contract: laid out, transformed, the first n values copied, and the cells cleared.
-- Assumes nothing.
use mathlib.Core.Path.{sym, ap, ◌∙◌}
use mathlib.Core.List.{List}
use Prim.Native.Nat.{ℕ}
use native.Mathlib.Omega.{arith}
use lib.ListN.{replicate}
use Rattle.answers.specs.Leaves.{written}
use Rattle.code.specs.Rooms.{encode_work}
use Rattle.code.proofs.Spreading.{n_fits, message_fits, still_room, part_transformable, word, word_inside, word_fits, cells_length}
use Rattle.code.proofs.spread.Goals as goal

pub slice_bounds-lay-end : goal.slice_bounds-lay-end
unfolding encode_work
slice_bounds-lay-end c = omega (arith, c.size-size.ensures, c.requires.2)

pub lay-requires : goal.lay-requires
unfolding encode_work
lay-requires c = message_fits c.args.n _ c.args.message.now c.args.cells.now c.requires.0 c.size-size.ensures c.requires.2

pub slice_bounds-transform-end : goal.slice_bounds-transform-end
unfolding encode_work
slice_bounds-transform-end c = omega (arith, c.size-size.ensures, still_room c.args.n _ c.args.message.now c.args.cells.now c.requires.0 c.size-size.ensures c.requires.2 c.lay.new.cells c.lay.ensures, n_fits c.args.n c.args.message.now c.requires.0)

pub transform-requires : goal.transform-requires
unfolding encode_work
transform-requires c = part_transformable c.args.n _ c.args.message.now c.args.cells.now c.requires.0 c.size-size.ensures c.requires.2 c.lay.new.cells c.lay.ensures

pub slice_bounds-copy-end : goal.slice_bounds-copy-end
unfolding encode_work
slice_bounds-copy-end c = word_inside c.args.n _ c.args.message.now c.args.cells.now c.requires.0 c.size-size.ensures c.requires.2 c.lay.new.cells c.lay.ensures c.transform.new.list c.transform.ensures

pub copy-requires : goal.copy-requires
unfolding encode_work
copy-requires c = word_fits c.args.n _ c.args.message.now c.args.cells.now c.requires.0 c.size-size.ensures c.requires.2 c.lay.new.cells c.lay.ensures c.transform.new.list c.transform.ensures c.args.out.now c.requires.1

pub shape_of-out : goal.shape_of-out
unfolding encode_work
shape_of-out c = c.copy.auto.to

pub shape_of-cells : goal.shape_of-cells
unfolding encode_work
shape_of-cells c = c.clear.auto.cells ∙ cells_length c.args.n _ c.args.message.now c.args.cells.now c.requires.0 c.size-size.ensures c.requires.2 c.lay.new.cells c.lay.ensures c.transform.new.list c.transform.ensures ∙ sym c.requires.2

pub returns : goal.returns
unfolding encode_work
returns c = record { out_after = c.copy.ensures ∙ ap (λ (w : List ℕ). written w c.args.out.now) (word c.args.n _ c.args.message.now c.args.cells.now c.requires.0 c.size-size.ensures c.requires.2 c.lay.new.cells c.lay.ensures c.transform.new.list c.transform.ensures); cells_after = c.clear.ensures ∙ ap (λ (m : ℕ). replicate m 0) (cells_length c.args.n _ c.args.message.now c.args.cells.now c.requires.0 c.size-size.ensures c.requires.2 c.lay.new.cells c.lay.ensures c.transform.new.list c.transform.ensures) }
