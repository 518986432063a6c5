-- `bundle_file::words::code_block` meets its contract: the message laid out is transformed, and its first n values are the code word.
-- Assumes nothing.
use native.Mathlib.Omega.{arith}
use Rattle.limits.specs.Shape.{longest}
use Rattle.field.proofs.Sizes.{size_enough}
use Rattle.bundle_storage.specs.Blocks.{most_blocks}
use Rattle.bundle_layout.proofs.Holding.{limits}
use Rattle.bundle_layout.proofs.Passing.{bundle_shape_told}
use Rattle.bundle_file.proofs.Messages.{block_transformable, block_word}
use Rattle.bundle_file.proofs.words.code_block.Goals as goal

pub lay_block-requires : goal.lay_block-requires
unfolding longest most_blocks
lay_block-requires c =
    let told = limits c.args.source.k c.args.source.n _ c.args.source.shaped in
    (omega arith, omega arith, omega (arith, size_enough c.args.source.n (omega arith)))

pub transform-requires : goal.transform-requires
unfolding longest most_blocks
transform-requires c = block_transformable c.args.source.k c.args.source.file.now c.args.b c.args.source.n c.lay_block.new.cells _ c.lay_block.ensures.message (bundle_shape_told _ _ _ c.args.source.shaped).0 c.requires.1 c.lay_block.ensures.laid

pub returns : goal.returns
unfolding longest most_blocks
returns c = block_word c.args.source.k c.args.source.file.now c.args.b c.args.source.n c.lay_block.new.cells _ c.lay_block.ensures.message (bundle_shape_told _ _ _ c.args.source.shaped).0 c.requires.1 c.lay_block.ensures.laid _ c.transform.ensures
