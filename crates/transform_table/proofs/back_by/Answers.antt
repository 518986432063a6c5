-- `transform_table::back_by` meets its contract: the list is transformed, and then turned round.
-- Assumes nothing.
use mathlib.Core.Path.{sym, ap, ◌∙◌}
use Rattle.transform_table.specs.Round.{turned_round}
use Rattle.transform_table.proofs.Round.{sums_back}
use Rattle.transform_table.proofs.back_by.Goals as goal

pub returns : goal.returns
returns c = c.turn_round.ensures ∙ ap turned_round c.transform_by.ensures ∙ sym (sums_back c.args.list.now c.requires.able)
