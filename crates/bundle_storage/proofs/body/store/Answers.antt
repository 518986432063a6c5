-- `bundle_storage::body::store` meets its contract: a symbol is listed where it is 65536, and its word is put.
-- Assumes nothing.
use Rattle.bundle_storage.proofs.Placing.{stored_listed, stored_word}
use Rattle.bundle_storage.proofs.body.store.Goals as goal

pub returns-then-symbol-eq65536 : goal.returns-then-symbol-eq65536
returns-then-symbol-eq65536 c = stored_listed c.args.count c.args.done c.args.b c.args.symbol c.args.body.now c.put_two.new.bytes _ c.if-symbol-eq65536.true c.put_two.ensures c.put_two-then-symbol-eq65536.ensures

pub returns : goal.returns
returns c = stored_word c.args.count c.args.done c.args.b c.args.symbol c.args.body.now _ c.if-symbol-eq65536.false c.put_two-2.ensures
