-- `transform_halving::join` meets its contract: at the loop's head j pairs are joined, and turn is the power j of the root.
-- Assumes nothing.
use mathlib.Core.Path.{sym, ap, ap₂, ◌∙◌}
use Prim.Native.Nat.{ℕ}
use native.Mathlib.Numerals.{add-one}
use native.Mathlib.Omega.{arith}
use Rattle.field.specs.Field.{product, power}
use Rattle.field.proofs.Ring.{power_zero, power_step}
use Rattle.transform_halving.specs.Halving.{joined}
use Rattle.transform_halving.proofs.Joining.{joining_none, joining_small, joining_more, joining_all}
use Rattle.transform_halving.proofs.join.Goals as goal

pub loop-j-init : goal.loop-j-init
loop-j-init c = (sym (power_zero _), joining_none _ _ _)

pub sum-first-requires : goal.sum-first-requires
sum-first-requires c =
    let l = c.loop-j in
    let small = joining_small _ _ _ l.front l.back l.j l.invariant.1 _ c.requires.1 c.split_at_mut-front.ensures.value (omega arith) (omega arith) in
    (omega (arith, small.0, small.1), c.product-odd.ensures.small)

pub difference-second-requires : goal.difference-second-requires
difference-second-requires c =
    let l = c.loop-j in
    let small = joining_small _ _ _ l.front l.back l.j l.invariant.1 _ c.requires.1 c.split_at_mut-front.ensures.value (omega arith) (omega arith) in
    (omega (arith, small.0, small.1), c.product-odd.ensures.small)

pub loop-j-preserved : goal.loop-j-preserved
loop-j-preserved c =
    let l = c.loop-j in (
      c.product-turn.ensures.is ∙ ap (λ (x : ℕ). product x c.args.root) l.invariant.0 ∙ sym (power_step c.args.root l.j) ∙ ap (power c.args.root) (sym (add-one l.j)),
      joining_more _ _ _ l.front l.back l.j l.invariant.1 l.turn _ _ _ (omega arith) (omega arith) l.invariant.0
          c.product-odd.ensures.is
          c.sum-first.ensures.is
          c.difference-second.ensures.is,
    )

pub returns : goal.returns
returns c =
    let l = c.loop-j in
    joining_all _ _ _ l.front l.back l.j l.invariant.1 (omega arith) (omega arith)
    ∙ ap₂ (joined c.args.root) c.split_at_mut-front.ensures.front c.split_at_mut-front.ensures.back
