-- `transform_table::lay_powers` meets its contract: at the loop's head as many powers are tabled as turns are done, and turn is the next.
-- Assumes nothing.
use mathlib.Core.Path.{sym, ap, ◌∙◌}
use Prim.Native.Nat.{ℕ}
use native.Mathlib.Nat.{zero-add}
use native.Mathlib.Numerals.{add-one}
use native.Mathlib.Omega.{arith}
use borrow.Author.Rules.{rules}
use Rattle.field.specs.Field.{product, power}
use Rattle.field.proofs.Ring.{power_zero, power_step}
use Rattle.lists.specs.Tab.{tab}
use Rattle.lists.proofs.Window.{window_none, window_store, window_all}
use Rattle.transform_table.proofs.lay_powers.Goals as goal

pub loop-cell-init : goal.loop-cell-init
loop-cell-init c = (sym (power_zero _), window_none 0 _ _)

pub loop-cell-preserved : goal.loop-cell-preserved
loop-cell-preserved c =
    let l = c.loop-cell in let i = l.cell-index in (
      c.product-turn.ensures.is ∙ ap (λ (x : ℕ). product x c.args.root) l.invariant.0 ∙ sym (power_step c.args.root i) ∙ ap (power c.args.root) (sym (add-one i)),
      window_store 0 i i _ _ l.cells l.turn (sym (zero-add i)) (search rules) l.invariant.1 l.invariant.0,
    )

pub returns : goal.returns
returns c =
    let l = c.loop-cell in
    l.invariant.1
    ∙ window_all l.cell-index _ _ (search rules)
    ∙ ap (λ (n : ℕ). tab n (power c.args.root)) (omega arith)
