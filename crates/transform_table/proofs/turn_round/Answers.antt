-- `transform_table::turn_round` meets its contract: what stands behind the first number is put in reverse.
-- Assumes nothing.
use borrow.Author.Rules.{rules}
use Rattle.transform_table.proofs.Round.{rest_turned, none_turned}
use Rattle.transform_table.proofs.turn_round.Goals as goal

pub returns-then-not-is_empty : goal.returns-then-not-is_empty
returns-then-not-is_empty c = rest_turned c.args.list.now c.reverse.new.self (search rules) c.reverse.ensures.after

pub returns-else-not-is_empty : goal.returns-else-not-is_empty
returns-else-not-is_empty c = none_turned c.args.list.now (search rules)
