-- `bundle_file::source::Source::blocks` meets its contract: the shape of the bundle limits what is divided.
-- Assumes nothing.
use native.Mathlib.Omega.{arith}
use borrow.Author.Rules.{rules}
use Rattle.limits.specs.Shape.{longest}
use Rattle.bundle_layout.specs.Shape.{longest_file}
use Rattle.bundle_layout.proofs.Holding.{limits}
use Rattle.bundle_file.proofs.source.Source.blocks.Goals as goal

pub blocks-requires : goal.blocks-requires
unfolding longest longest_file
blocks-requires c =
    let told = limits _ _ _ c.args.self.shaped in
    (omega arith, omega arith, told.file)

pub returns : goal.returns
returns c =
    let told = limits _ _ _ c.args.self.shaped in
    (search rules, omega arith)
