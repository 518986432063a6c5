-- `transform_halving::inverse` meets its contract: arranged and halved at the root's inverse, then multiplied by 1/N.
-- Assumes nothing.
use mathlib.Core.Path.{subst, sym, ap, ◌∙◌}
use native.Mathlib.Omega.{arith}
use Rattle.field.specs.Field.{inverse}
use Rattle.field.specs.Points.{root_of}
use Rattle.field.specs.Roots.{root}
use Rattle.transform_halving.specs.Transformable.{Transformable}
use Rattle.transform_halving.proofs.Transformable.{transformable_short}
use Rattle.transform_halving.proofs.Steps.{arranged_transformable, inverse_steps}
use Rattle.transform_halving.proofs.inverse.Goals as goal

pub overflow_cast-list : goal.overflow_cast-list
unfolding root_of
overflow_cast-list c = omega (arith, transformable_short _ c.requires)

pub halve-requires : goal.halve-requires
unfolding root_of
halve-requires c = subst Transformable (sym c.arrange.ensures) (arranged_transformable _ c.requires)

pub returns : goal.returns
unfolding root_of
returns c =
    inverse_steps _ c.requires _ _ _ _ _
    (c.inverse-back.ensures.is ∙ ap inverse (c.root-root.ensures.is ∙ ap root c.level.ensures.is))
    c.inverse-part.ensures.is
    c.arrange.ensures
    c.halve.ensures
    c.scale.ensures
