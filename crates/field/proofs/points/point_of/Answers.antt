-- `field::points::point_of` meets its contract: the root's power, by what level, root and power ensure.
-- Assumes nothing.
use mathlib.Core.Path.{ap, ◌∙◌}
use Prim.Native.Nat.{ℕ}
use Rattle.field.specs.Field.{power}
use Rattle.field.specs.Points.{root_of, point_of}
use Rattle.field.specs.Roots.{root}
use Rattle.field.proofs.points.point_of.Goals as goal

pub returns : goal.returns
unfolding root_of point_of
returns c =
    record {
      is =
          c.power.ensures.is
          ∙ ap (λ (r : ℕ). power r c.args.position.0) (c.root.ensures.is ∙ ap root c.level.ensures.is);
      small = c.power.ensures.small;
    }
