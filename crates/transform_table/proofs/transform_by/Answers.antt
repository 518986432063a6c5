-- `transform_table::transform_by` meets its contract: the list is arranged, and then halved by the table.
-- Assumes nothing.
use mathlib.Core.Path.{ap}
use Rattle.field.specs.Points.{root_of}
use Rattle.transform_halving.proofs.Steps.{transform_steps}
use Rattle.transform_table.proofs.Table.{arranged_tabled}
use Rattle.transform_table.proofs.transform_by.Goals as goal

pub halve_by-requires : goal.halve_by-requires
halve_by-requires c = arranged_tabled _ _ _ _ c.requires c.arrange.auto.list c.arrange.ensures

pub returns : goal.returns
returns c = transform_steps _ c.requires.able _ _ _ (ap root_of c.arrange.auto.list) c.arrange.ensures c.halve_by.ensures
