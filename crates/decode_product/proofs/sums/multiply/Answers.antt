-- `decode_product::sums::multiply` meets its contract: both halves of the product are written to the rooms and brought to the front.
-- Assumes nothing.
use mathlib.Core.Path.{◌∙◌}
use native.Mathlib.Omega.{arith}
use Rattle.cells.proofs.Filled.{copied_all}
use Rattle.decode_product.proofs.Filling.{lent, gathered}
use Rattle.decode_product.proofs.sums.multiply.Goals as goal

pub fill-requires : goal.fill-requires
fill-requires c =
    lent c.args.cells.now c.requires _ _ _ _ _ _ c.split_at_mut-front.ensures.front c.split_at_mut-front.ensures.back
    c.split_at_mut-first.ensures.front c.split_at_mut-first.ensures.back c.split_at_mut-second.ensures.front c.split_at_mut-second.ensures.back

pub copy-requires : goal.copy-requires
copy-requires c =
    let lent = lent c.args.cells.now c.requires _ _ _ _ _ _ c.split_at_mut-front.ensures.front c.split_at_mut-front.ensures.back
    c.split_at_mut-first.ensures.front c.split_at_mut-first.ensures.back c.split_at_mut-second.ensures.front c.split_at_mut-second.ensures.back in
    omega (arith, c.fill.auto.below, lent.1)

pub copy-requires-2 : goal.copy-requires-2
copy-requires-2 c =
    let lent = lent c.args.cells.now c.requires _ _ _ _ _ _ c.split_at_mut-front.ensures.front c.split_at_mut-front.ensures.back
    c.split_at_mut-first.ensures.front c.split_at_mut-first.ensures.back c.split_at_mut-second.ensures.front c.split_at_mut-second.ensures.back in
    omega (arith, c.fill.auto.below, c.fill.auto.above, lent.1, lent.2)

pub returns : goal.returns
returns c =
    let lent = lent c.args.cells.now c.requires _ _ _ _ _ _ c.split_at_mut-front.ensures.front c.split_at_mut-front.ensures.back
    c.split_at_mut-first.ensures.front c.split_at_mut-first.ensures.back c.split_at_mut-second.ensures.front c.split_at_mut-second.ensures.back in
    gathered c.args.cells.now c.requires _ _ _ _ _ _ c.split_at_mut-front.ensures.front c.split_at_mut-front.ensures.back
    c.split_at_mut-first.ensures.front c.split_at_mut-first.ensures.back c.split_at_mut-second.ensures.front c.split_at_mut-second.ensures.back
    _ _ _ _ _ c.fill.ensures.lows c.fill.ensures.highs
    (c.copy.ensures ∙ copied_all _ _ (omega (arith, c.fill.auto.below, lent.1)))
    (c.copy-2.ensures ∙ copied_all _ _ (omega (arith, c.fill.auto.below, c.fill.auto.above, lent.1, lent.2)))
