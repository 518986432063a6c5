-- `cells::copy` meets its contract: the numbers passed stand in front, the rest is as it was.
-- Assumes nothing.
use mathlib.Core.Path.{ap, ◌∙◌}
use lib.ListN.{set}
use Rattle.cells.proofs.Filled.{copied_more, copied_whole}
use Rattle.cells.proofs.copy.Goals as goal

pub loop-at-preserved : goal.loop-at-preserved
loop-at-preserved g c =
    let l = c.loop-at in
    ap (λ s. set s l.at c.index-from-at.result) l.invariant
    ∙ copied_more l.at c.args.from.now c.args.to.now c.index-from-at.result c.loop-at-test.true c.requires c.index-from-at.is

pub returns : goal.returns
returns g c =
    let l = c.loop-at in
    l.invariant ∙ copied_whole l.at c.args.from.now c.args.to.now l.auto.at-end c.loop-at-test.false
