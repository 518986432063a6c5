-- `bundle_file::counts::code_front` meets its contract: the code word is made in the first N cells.
-- Assumes nothing.
use Rattle.bundle_file.proofs.Counting.{coded}
use Rattle.bundle_file.proofs.counts.code_front.Goals as goal

pub returns-clause-coded : goal.returns-clause-coded
returns-clause-coded c =
    let s = c.args.source in
    coded s.n _ c.args.cells.now c.size-size.ensures s.k s.file.now c.args.b c.requires.1 c.code_block.new.cells c.code_block.auto.cells c.code_block.ensures
