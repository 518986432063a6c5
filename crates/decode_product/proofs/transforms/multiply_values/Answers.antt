-- `decode_product::transforms::multiply_values` meets its contract: at the loop's head i products stand in front, the rest is as it was.
-- Assumes nothing.
use mathlib.Core.Path.{refl, sym, ap, ◌∙◌}
use mathlib.Core.List.{List}
use Prim.Native.Nat.{ℕ}
use native.Mathlib.Nat.{zero-add}
use native.Mathlib.Omega.{arith}
use lib.ListN.{get_or}
use Rattle.field.specs.Field.{product}
use Rattle.lists.proofs.Window.{window_none, window_store, window_past, window_done}
use Rattle.decode_product.proofs.transforms.multiply_values.Goals as goal

pub loop-i-init : goal.loop-i-init
loop-i-init c = window_none 0 _ _

-- what is multiplied is not written yet
pub loop-i-preserved : goal.loop-i-preserved
loop-i-preserved c =
    let l = c.loop-i in
    window_store 0 l.i l.i _ c.args.list.now l.list _ (sym (zero-add l.i)) (omega arith) l.invariant
    (c.product.ensures.is
    ∙ ap (λ (x : ℕ). product x (get_or c.args.factors.now l.i 0))
    (ap (λ (s : List ℕ). get_or s l.i 0) l.invariant ∙ window_past 0 l.i l.i _ c.args.list.now (omega arith) (omega arith)))

pub returns : goal.returns
returns c = window_done _ c.loop-i.i _ c.args.list.now _ refl (omega arith) c.loop-i-test.false c.loop-i.invariant
