-- `bundle_read::bytes::byte_of` meets its contract: an even place has a word's first byte, an odd one its second.
-- Assumes nothing.
use mathlib.Core.Path.{refl}
use native.Mathlib.Omega.{arith}
use Rattle.bundle_read.proofs.MessageBytes.{even_byte, odd_byte}
use Rattle.bundle_read.proofs.bytes.byte_of.Goals as goal

pub returns-then-i-eq0 : goal.returns-then-i-eq0
returns-then-i-eq0 c = even_byte c.args.message.now c.args.i _ refl (c.requires.1 _ (omega (arith, c.requires.0))) c.if-i-eq0.true

pub returns-else-i-eq0 : goal.returns-else-i-eq0
returns-else-i-eq0 c = odd_byte c.args.message.now c.args.i _ refl (c.requires.1 _ (omega (arith, c.requires.0))) c.if-i-eq0.false
