-- What the loop of `bundle_gather::once::lay_shadows` keeps true.
use mathlib.Core.Path.{◌≡◌}
use lib.ListN.{length}
use Rattle.bundle_gather.specs.Gathering.{Shadows}
use Rattle.bundle_gather.proofs.once.lay_shadows.Given as goal

abbrev pub invariant-loop-t : goal.invariant-loop-t
invariant-loop-t l = (length l.cells ≡ length l.initial.cells) × Shadows l.bundle.bytes.now l.t l.cells
