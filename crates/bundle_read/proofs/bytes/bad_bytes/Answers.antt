-- `bundle_read::bytes::bad_bytes` meets its contract: the loop has passed only zeros.
-- Assumes nothing.
use mathlib.Core.Path.{sym, ◌∙◌}
use native.Mathlib.Omega.{arith}
use borrow.Author.Rules.{rules}
use Rattle.bundle_storage.specs.Bytes.{in_bytes}
use Rattle.bundle_storage.proofs.BytesLaws.{in_bytes_length}
use Rattle.bundle_read.proofs.MessageBytes.{bad_here, bad_nowhere, passed_none, passed_more}
use Rattle.bundle_read.proofs.bytes.bad_bytes.Goals as goal

pub loop-i-init : goal.loop-i-init
loop-i-init c = (search rules, λ j le l. absurd (passed_none le l))

pub byte_of-requires : goal.byte_of-requires
byte_of-requires c = (search rules, c.requires)

pub returns-then-byte_of-ne0 : goal.returns-then-byte_of-ne0
returns-then-byte_of-ne0 c = sym (bad_here (in_bytes c.args.message.now) c.args.from c.loop-i.i _ c.loop-i.invariant.0 (omega (arith, in_bytes_length c.args.message.now, c.loop-i-test.true)) c.byte_of.ensures.0 c.if-byte_of-ne0.true)

pub loop-i-preserved : goal.loop-i-preserved
loop-i-preserved c = (search rules, passed_more (in_bytes c.args.message.now) c.args.from c.loop-i.i c.loop-i.invariant.1 (sym c.byte_of.ensures.0 ∙ c.if-byte_of-ne0.false))

pub returns : goal.returns
returns c = sym (bad_nowhere (in_bytes c.args.message.now) c.args.from (λ j le h. c.loop-i.invariant.1 j le (omega (arith, in_bytes_length c.args.message.now, c.loop-i-test.false, h))))
