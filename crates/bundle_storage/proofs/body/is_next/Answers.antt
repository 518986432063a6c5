-- `bundle_storage::body::is_next` meets its contract: behind the last entry no block is next.
-- Assumes nothing.
use borrow.Author.Tests.{lt-ltb, le-ltb}
use Rattle.bundle_storage.proofs.body.is_next.Goals as goal

pub returns-then-words-cursor : goal.returns-then-words-cursor
returns-then-words-cursor c = simp (le-ltb _ _ c.if-words-cursor.true)

pub returns : goal.returns
returns c = simp (lt-ltb _ _ c.if-words-cursor.false, c.two_at.ensures.0)
