-- `bundle_read::blocks::read_block` meets its contract: the symbols are gathered, and the message that fits them is taken or there is none.
-- Assumes nothing.
use mathlib.Core.Path.{◌∙◌}
use native.Mathlib.Omega.{arith}
use lib.ListN.{length}
use Rattle.field.proofs.Sizes.{size_small}
use Rattle.bundle_read.proofs.BlockReading.{block_message, block_none, bytes_more}
use Rattle.bundle_read.proofs.Finding.{part_inside, divide_asked, message_there, cells_kept, laid_after, none_decoded, message_decoded, message_good}
use Rattle.bundle_read.proofs.blocks.read_block.Goals as goal

pub overflow_mul-end : goal.overflow_mul-end
overflow_mul-end c = omega (arith, size_small _ _ c.size-end.ensures)

pub gather-requires : goal.gather-requires
gather-requires c = (c.requires.readable.0, c.requires.prepared.1)

pub slice_bounds-divide-end : goal.slice_bounds-divide-end
slice_bounds-divide-end c = part_inside c.args.bundle.bytes.now c.args.b c.gather.new.cells c.known_as_bytes.ensures c.args.bundle.good c.requires.readable.1 c.gather.ensures.0 c.gather.ensures.1 _ _ _ _ c.k-k.ensures.0 c.n-n.ensures.0 c.size-end.ensures c.requires.prepared.0

pub divide-requires : goal.divide-requires
divide-requires c = divide_asked c.args.bundle.bytes.now c.args.b c.gather.new.cells c.known_as_bytes.ensures c.args.bundle.good c.requires.readable.1 c.gather.ensures.0 c.gather.ensures.1 _ _ _ _ c.k-k.ensures.0 c.n-n.ensures.0 c.size-end.ensures c.requires.prepared.0

pub slice_bounds-take_message-end : goal.slice_bounds-take_message-end
slice_bounds-take_message-end c = message_there c.args.bundle.bytes.now c.args.b c.gather.new.cells c.known_as_bytes.ensures c.args.bundle.good c.requires.readable.1 c.gather.ensures.0 c.gather.ensures.1 _ _ _ _ c.k-k.ensures.0 c.n-n.ensures.0 c.size-end.ensures c.requires.prepared.0 c.divide.new.cells c.divide.auto.cells

pub take_message-requires : goal.take_message-requires
take_message-requires c = record { block = c.requires.readable.0; a_message = message_good c.args.bundle.bytes.now c.args.b c.gather.new.cells c.known_as_bytes.ensures c.args.bundle.good c.requires.readable.1 c.gather.ensures.0 c.gather.ensures.1 _ _ _ _ c.k-k.ensures.0 c.n-n.ensures.0 c.size-end.ensures c.requires.prepared.0 c.divide.new.cells c.divide.auto.cells _ c.divide.ensures.divided c.if-not-divide.false }

pub returns-then-not-divide-clause-answer : goal.returns-then-not-divide-clause-answer
returns-then-not-divide-clause-answer c =
    block_none c.args.bundle.bytes.now c.args.b
    (none_decoded c.args.bundle.bytes.now c.args.b c.gather.new.cells c.known_as_bytes.ensures c.args.bundle.good c.requires.readable.1 c.gather.ensures.0 c.gather.ensures.1 _ _ _ _ c.k-k.ensures.0 c.n-n.ensures.0 c.size-end.ensures c.requires.prepared.0 c.divide.new.cells c.divide.auto.cells _ c.divide.ensures.divided c.if-not-divide.true)

pub returns-then-not-divide-clause-laid : goal.returns-then-not-divide-clause-laid
returns-then-not-divide-clause-laid c = laid_after c.args.bundle.bytes.now c.args.b c.gather.new.cells c.known_as_bytes.ensures c.args.bundle.good c.requires.readable.1 c.gather.ensures.0 c.gather.ensures.1 _ _ _ _ c.k-k.ensures.0 c.n-n.ensures.0 c.size-end.ensures c.requires.prepared.0 c.divide.new.cells c.divide.auto.cells c.divide.ensures.rest

pub shape_of-cells : goal.shape_of-cells
shape_of-cells c = cells_kept c.args.bundle.bytes.now c.args.b c.gather.new.cells c.known_as_bytes.ensures c.args.bundle.good c.requires.readable.1 c.gather.ensures.0 c.gather.ensures.1 _ _ _ _ c.k-k.ensures.0 c.n-n.ensures.0 c.size-end.ensures c.requires.prepared.0 c.divide.new.cells c.divide.auto.cells ∙ c.gather.auto.cells

pub returns : goal.returns
returns c =
    let s = c.args.bundle.bytes.now in
    let decoded = message_decoded c.args.bundle.bytes.now c.args.b c.gather.new.cells c.known_as_bytes.ensures c.args.bundle.good c.requires.readable.1 c.gather.ensures.0 c.gather.ensures.1 _ _ _ _ c.k-k.ensures.0 c.n-n.ensures.0 c.size-end.ensures c.requires.prepared.0 c.divide.new.cells c.divide.auto.cells _ c.divide.ensures.divided c.if-not-divide.false in
    record {
      answer = block_message s c.args.b _ _ decoded c.take_message.ensures.answer;
      laid = laid_after c.args.bundle.bytes.now c.args.b c.gather.new.cells c.known_as_bytes.ensures c.args.bundle.good c.requires.readable.1 c.gather.ensures.0 c.gather.ensures.1 _ _ _ _ c.k-k.ensures.0 c.n-n.ensures.0 c.size-end.ensures c.requires.prepared.0 c.divide.new.cells c.divide.auto.cells c.divide.ensures.rest;
      file = λ done before. bytes_more s c.args.b (length c.args.file.now) _ _ _ decoded (c.take_message.ensures.laid done) before;
    }
