-- What the loop of `bundle_read::blocks::read_blocks` keeps true.
use mathlib.Core.Path.{◌≡◌}
use lib.ListN.{length}
use Rattle.bundle_read.proofs.BlockReading.{Taken}
use Rattle.bundle_read.proofs.blocks.read_blocks.Given as goal

abbrev pub invariant-loop-b : goal.invariant-loop-b
invariant-loop-b l = (length l.file ≡ length l.initial.file) × Taken l.bundle.bytes.now l.b l.file l.cells
