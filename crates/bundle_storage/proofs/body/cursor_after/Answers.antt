-- `bundle_storage::body::cursor_after` meets its contract: the cursor moves exactly if the block is listed.
-- Assumes nothing.
use mathlib.Core.Path.{sym, ◌∙◌}
use Rattle.bundle_storage.proofs.Cursors.{placed_moved, placed_stays}
use Rattle.bundle_storage.proofs.body.cursor_after.Goals as goal

pub returns-then-symbol-eq65536 : goal.returns-then-symbol-eq65536
returns-then-symbol-eq65536 c at B n b words s bytes placed is = placed_moved at B n s b words _ placed bytes (sym is ∙ c.if-symbol-eq65536.true)

pub returns : goal.returns
returns c at B n b words s bytes placed is = placed_stays at B n s b words _ placed bytes (λ over. c.if-symbol-eq65536.false (is ∙ over))
