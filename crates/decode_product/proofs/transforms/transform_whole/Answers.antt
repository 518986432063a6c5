-- `decode_product::transforms::transform_whole` meets its contract: the list with its highest coefficient and zeros behind it is transformed.
-- Assumes nothing.
use mathlib.Core.Path.{ap, ◌∙◌}
use Rattle.transform_halving.specs.Transform.{transform_of}
use Rattle.decode_product.proofs.Padding.{padded_in_place}
use Rattle.decode_product.proofs.transforms.transform_whole.Goals as goal

pub returns : goal.returns
returns c = c.transform.ensures ∙ ap transform_of (padded_in_place c.args.cells.now c.requires c.clear.new.cells c.clear.ensures)
