-- `transform_table::join_by` meets its contract: at the loop's head j pairs are joined, and turn j is the power j of the root.
-- Assumes nothing.
use mathlib.Core.Path.{ap₂, ◌∙◌}
use native.Mathlib.Omega.{arith}
use Rattle.field.specs.Points.{root_of}
use Rattle.transform_halving.specs.Halving.{joined}
use Rattle.transform_halving.proofs.Joining.{joining_none, joining_small, joining_more, joining_all}
use Rattle.transform_table.proofs.Table.{turn_inside}
use Rattle.transform_table.proofs.join_by.Goals as goal

pub loop-j-init : goal.loop-j-init
loop-j-init c = joining_none _ _ _

pub at-requires : goal.at-requires
at-requires c = turn_inside _ _ _ _ c.requires.0.turns c.loop-j.j (omega arith)

pub sum-first-requires : goal.sum-first-requires
sum-first-requires c =
    let l = c.loop-j in
    let small = joining_small _ _ _ l.front l.back l.j l.invariant _ c.requires.0.able.symbols c.split_at_mut-front.ensures.value (omega arith) (omega arith) in
    (omega (arith, small.0, small.1), c.product-odd.ensures.small)

pub difference-second-requires : goal.difference-second-requires
difference-second-requires c =
    let l = c.loop-j in
    let small = joining_small _ _ _ l.front l.back l.j l.invariant _ c.requires.0.able.symbols c.split_at_mut-front.ensures.value (omega arith) (omega arith) in
    (omega (arith, small.0, small.1), c.product-odd.ensures.small)

pub loop-j-preserved : goal.loop-j-preserved
loop-j-preserved c =
    let l = c.loop-j in
    joining_more _ _ _ l.front l.back l.j l.invariant _ _ _ _ (omega arith) (omega arith)
    (c.at.ensures ∙ c.requires.0.turns.is l.j (omega arith))
    c.product-odd.ensures.is
    c.sum-first.ensures.is
    c.difference-second.ensures.is

pub returns : goal.returns
returns c =
    let l = c.loop-j in
    joining_all _ _ _ l.front l.back l.j l.invariant (omega arith) (omega arith)
    ∙ ap₂ (joined (root_of _)) c.split_at_mut-front.ensures.front c.split_at_mut-front.ensures.back
