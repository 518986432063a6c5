-- `bundle_front::put_entry` meets its contract: three numbers, put one behind the other.
-- Assumes nothing.
use Prim.Native.Nat.{◌+◌, ◌*◌}
use borrow.Author.Rules.{rules}
use Rattle.bundle_layout.specs.Fields.{entry_at}
use Rattle.bundle_layout.specs.Shadows.{header_size, entry_size}
use Rattle.bundle_front.proofs.Fronting.{entry_puts}
use Rattle.bundle_front.proofs.put_entry.Goals as goal

pub returns : goal.returns
unfolding entry_at header_size entry_size
returns c = cc (entry_puts c.args.i c.args.count c.args.offset (16 + 8 * c.args.i) c.args.out.now (search rules))

pub put_two-requires : goal.put_two-requires
unfolding entry_at header_size entry_size
put_two-requires c = search rules

pub put_two-requires-2 : goal.put_two-requires-2
unfolding entry_at header_size entry_size
put_two-requires-2 c = search rules

pub put_four-requires : goal.put_four-requires
unfolding entry_at header_size entry_size
put_four-requires c = search rules
