-- `bundle_file::words::lay_block` meets its contract: the words are laid in front, and the rest is cleared.
-- Assumes nothing.
use Prim.Native.Nat.{◌-◌}
use native.Mathlib.Nat.{mul-le-mul}
use native.Mathlib.Omega.{arith}
use lib.Seq.{length-take-le}
use Rattle.limits.specs.Shape.{longest}
use Rattle.bundle_storage.specs.Blocks.{most_blocks}
use Rattle.bundle_file.proofs.Padding.{message_is}
use Rattle.bundle_file.proofs.Messages.{laid_block}
use Rattle.bundle_file.proofs.words.lay_block.Goals as goal

pub overflow_mul-k : goal.overflow_mul-k
unfolding longest most_blocks
overflow_mul-k c = omega (arith, mul-le-mul {n₂ = 4096} {m₂ = 65535} c.requires.0 c.requires.1)

pub overflow_mul-k-2 : goal.overflow_mul-k-2
unfolding longest most_blocks
overflow_mul-k-2 c = omega (arith, mul-le-mul {n₂ = 4096} {m₂ = 65535} c.requires.0 c.requires.1)

pub lay_words-requires : goal.lay_words-requires
unfolding longest most_blocks
lay_words-requires c = omega (arith, mul-le-mul {n₂ = 4096} {m₂ = 65535} c.requires.0 c.requires.1, length-take-le (c.args.k - 0) c.args.cells.now (omega arith))

pub returns : goal.returns
unfolding longest most_blocks
returns c =
    record {
      laid = laid_block c.args.k c.args.file.now c.args.b c.args.cells.now c.lay_words.new.words c.clear.new.cells c.requires.2 c.lay_words.ensures c.clear.ensures;
      message = message_is c.args.k c.args.file.now (λ i h. omega (arith, c.type_inv.file i)) c.args.b;
    }
