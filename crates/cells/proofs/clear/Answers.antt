-- `cells::clear` meets its contract: the cells passed are zero, the rest as they were.
-- Assumes nothing.
use mathlib.Core.Path.{◌∙◌}
use native.Mathlib.Omega.{arith}
use Rattle.cells.proofs.Filled.{fill_at, filled_whole}
use Rattle.cells.proofs.clear.Goals as goal

pub loop-at-preserved : goal.loop-at-preserved
loop-at-preserved g c =
    let l = c.loop-at in
    fill_at g.T.Cell.zero _ l.at _ _ c.args.cells.now (omega arith) c.zero.ensures l.invariant c.loop-at-test.true

pub returns : goal.returns
returns g c =
    let l = c.loop-at in
    l.invariant ∙ filled_whole g.T.Cell.zero l.at c.args.cells.now l.auto.at-end c.loop-at-test.false
