-- What the loop of `bundle_gather::symbols::gather` keeps true.
use Rattle.bundle_gather.proofs.Gathering.{Passed}
use Rattle.bundle_gather.proofs.symbols.gather.Given as goal

abbrev pub invariant-loop-t : goal.invariant-loop-t
invariant-loop-t l = Passed l.bundle.bytes.now l.b l.t l.cells
