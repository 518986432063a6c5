-- `transform_halving::scale` meets its contract: the numbers passed are multiplied, the rest as they were.
-- Assumes nothing.
use mathlib.Core.Path.{ap, ◌∙◌}
use Prim.Native.Nat.{ℕ}
use native.Mathlib.Omega.{arith}
use borrow.Author.Rules.{rules}
use lib.ListN.{get_or}
use Rattle.field.specs.Field.{product}
use Rattle.lists.specs.Tab.{tab}
use Rattle.lists.proofs.Window.{window_none, window_change, window_all}
use Rattle.transform_halving.proofs.scale.Goals as goal

pub loop-number-init : goal.loop-number-init
loop-number-init c = window_none 0 _ _

pub loop-number-preserved : goal.loop-number-preserved
loop-number-preserved c =
    let l = c.loop-number in
    window_change (product c.args.factor) l.number-index c.args.list.now l.list _ (search rules) l.invariant c.product.ensures.is

pub returns : goal.returns
returns c =
    let l = c.loop-number in
    l.invariant
    ∙ window_all l.number-index _ c.args.list.now (search rules)
    ∙ ap (λ (n : ℕ). tab n (λ j. product c.args.factor (get_or c.args.list.now j 0))) (omega arith)
