-- `bundle_file::source::Source::size` meets its contract: a code word of this shape is no longer than N.
-- Assumes nothing.
use native.Mathlib.Omega.{arith}
use Rattle.bundle_file.proofs.Counting.{n_fits}
use Rattle.bundle_file.proofs.source.Source.size.Goals as goal

pub returns : goal.returns
returns c = (c.size.ensures, omega (arith, c.size.ensures, n_fits _ _ _ c.args.self.shaped))
