-- `transform_halving::exchange` meets its contract: the two change places where the first is the lower one, none else.
-- Assumes nothing.
use mathlib.Core.Path.{sym, ◌∙◌}
use borrow.Author.Tests.{lt-ltb, le-ltb}
use Rattle.std.proofs.lemmas.List.Edits.{swap_is}
use Rattle.transform_halving.specs.Order.{exchanged}
use Rattle.transform_halving.proofs.exchange.Goals as goal

pub returns-then-i-j : goal.returns-then-i-j
unfolding exchanged
returns-then-i-j c = c.swap.ensures.after ∙ simp (lt-ltb _ _ c.if-i-j.true) (sym (swap_is c.args.list.now c.args.i c.args.j 0 c.requires.0 c.requires.1))

pub returns-else-i-j : goal.returns-else-i-j
unfolding exchanged
returns-else-i-j c = simp (le-ltb _ _ c.if-i-j.false)
