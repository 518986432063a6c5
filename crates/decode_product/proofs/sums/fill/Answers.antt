-- `decode_product::sums::fill` meets its contract: at the loop's head i coefficients stand in each room.
-- Assumes nothing.
use mathlib.Core.Path.{sym}
use native.Mathlib.Nat.{zero-add}
use native.Mathlib.Omega.{arith}
use Rattle.lists.proofs.Window.{window_none, window_store, window_done}
use Rattle.decode_product.proofs.sums.fill.Goals as goal

pub loop-i-init : goal.loop-i-init
loop-i-init c = (window_none 0 _ _, window_none 0 _ _)

pub loop-i-preserved : goal.loop-i-preserved
loop-i-preserved c =
    let l = c.loop-i in (
      window_store 0 l.i l.i _ _ l.below _ (sym (zero-add l.i)) (omega arith) l.invariant.0 c.low.ensures,
      window_store 0 l.i l.i _ _ l.above _ (sym (zero-add l.i)) (omega arith) l.invariant.1 c.high.ensures,
    )

pub returns-clause-lows : goal.returns-clause-lows
returns-clause-lows c =
    window_done _ c.loop-i.i _ c.args.below.now _ c.requires.1 (omega arith) c.loop-i-test.false c.loop-i.invariant.0

pub returns-clause-highs : goal.returns-clause-highs
returns-clause-highs c =
    window_done _ c.loop-i.i _ c.args.above.now _ c.requires.2 (omega arith) c.loop-i-test.false c.loop-i.invariant.1
