-- `bundle_first_pass::pass_block` meets its contract: the block is coded, stored and counted.
-- Assumes nothing.
use native.Mathlib.Omega.{arith}
use Rattle.bundle_layout.proofs.Holding.{limits}
use Rattle.bundle_file.proofs.Counting.{tally_asked, counted_more}
use Rattle.bundle_first_pass.proofs.pass_block.Goals as goal

pub tally-requires : goal.tally-requires
tally-requires c =
    let s = c.args.source in
    tally_asked s.n _ c.code_front.new.cells c.size.ensures s.k s.file.now c.args.b c.code_front.ensures.counted
    (omega (arith, c.requires.0, (limits _ _ _ s.shaped).blocks))

pub returns-clause-counted : goal.returns-clause-counted
returns-clause-counted c =
    let s = c.args.source in
    counted_more s.n _ c.code_front.new.cells c.size.ensures s.k s.file.now c.args.b c.code_front.ensures.counted c.tally.new.cells c.code_front.ensures.coded c.tally.auto.cells c.tally.ensures
