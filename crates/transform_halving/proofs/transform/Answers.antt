-- `transform_halving::transform` meets its contract: arranged and halved, at the root of order N.
-- Assumes nothing.
use mathlib.Core.Path.{subst, sym, ap, ◌∙◌}
use Rattle.field.specs.Points.{root_of}
use Rattle.field.specs.Roots.{root}
use Rattle.transform_halving.specs.Transformable.{Transformable}
use Rattle.transform_halving.proofs.Steps.{arranged_transformable, transform_steps}
use Rattle.transform_halving.proofs.transform.Goals as goal

pub halve-requires : goal.halve-requires
unfolding root_of
halve-requires c = subst Transformable (sym c.arrange.ensures) (arranged_transformable _ c.requires)

pub returns : goal.returns
unfolding root_of
returns c =
    transform_steps _ c.requires _ _ _
    (c.root-root.ensures.is ∙ ap root c.level.ensures.is)
    c.arrange.ensures
    c.halve.ensures
