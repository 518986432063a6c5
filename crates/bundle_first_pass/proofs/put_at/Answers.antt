-- `bundle_first_pass::put_at` meets its contract: what is stored in the body is stored in the output.
-- Assumes nothing.
use native.Mathlib.Omega.{arith}
use Rattle.bundle_storage.specs.Storage.{body_size}
use Rattle.bundle_storage.proofs.Placing.{lent_bytes_length, stored_part}
use Rattle.bundle_first_pass.proofs.put_at.Goals as goal

pub store-requires : goal.store-requires
unfolding body_size
store-requires c =
    let long = lent_bytes_length c.args.at c.body_size.result c.args.out.now (omega arith) in
    (omega arith, omega arith, omega arith, c.requires.5)

pub returns : goal.returns
unfolding body_size
returns c = stored_part c.args.count c.args.done c.args.b c.args.symbol c.args.at c.body_size.result c.args.out.now c.store.new.body (omega arith) (omega arith) (omega arith) c.store.ensures
