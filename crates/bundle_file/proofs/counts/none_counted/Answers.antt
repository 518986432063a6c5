-- `bundle_file::counts::none_counted` meets its contract: all the counts are 0 if no index has another.
-- Assumes nothing.
use mathlib.Core.Path.{refl}
use borrow.Author.Rules.{rules}
use Rattle.bundle_file.proofs.Counting.{all_none}
use Rattle.bundle_file.proofs.counts.none_counted.Goals as goal

pub returns : goal.returns
returns c = all_none c.args.n c.args.size c.args.cells.now _ _ c.requires refl (search rules)
