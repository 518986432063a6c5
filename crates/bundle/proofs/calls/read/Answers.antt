-- `bundle::calls::read` meets its contract: the blocks are read in the stated parts of what is lent, and the rest stays.
-- Assumes nothing.
use Rattle.bundle.proofs.ReadLeaving.{read_left}
use Rattle.bundle.proofs.calls.read.Goals as goal

pub returns : goal.returns
returns c =
    let told = c.in_ok-layout.ensures in
    read_left c.args.bundle.now c.in_ok-layout.layout.bytes.now c.args.out.now c.args.work.now told.same told.answer _ _ _ _ _ _
    c.length-length.ensures.0 c.n.ensures.0 c.bundle_work-stated.ensures c.read_all.ensures
