-- What the loop of `bundle_gather::once::mark_held` keeps true.
use mathlib.Core.Path.{◌≡◌}
use Rattle.bundle_gather.specs.Gathering.{marks_in}
use Rattle.bundle_gather.proofs.once.mark_held.Given as goal

abbrev pub invariant-loop-t : goal.invariant-loop-t
invariant-loop-t l = (l.marks ≡ marks_in l.bundle.bytes.now l.t)
