-- `field_calls::points::point_at` meets its contract: SHAPE, then POSITION, then the point by N.
-- Assumes nothing.
use mathlib.Core.Path.{sym, ap, ◌∙◌}
use mathlib.Core.List.{[], ◌∷◌}
use Prim.Native.Nat.{ℕ}
use borrow.Author.Tests.{le-leb, lt-leb}
use Rattle.field.specs.Points.{point_of}
use Rattle.answers.specs.Refusals.{the_result}
use Rattle.field_calls.specs.Points.{point_answer}
use Rattle.field_calls.proofs.points.point_at.Goals as goal

pub returns-then-bad_shape : goal.returns-then-bad_shape
unfolding point_answer
returns-then-bad_shape c = simp (sym c.bad_shape.ensures ∙ c.if-bad_shape.true)

pub returns-then-n-i : goal.returns-then-n-i
unfolding point_answer
returns-then-n-i c = simp (sym c.bad_shape.ensures ∙ c.if-bad_shape.false, le-leb _ _ c.if-n-i.true)

pub returns : goal.returns
unfolding point_answer
returns c =
    simp (
      sym c.bad_shape.ensures ∙ c.if-bad_shape.false,
      lt-leb _ _ c.if-n-i.false,
    )
    (ap (λ (v : ℕ). the_result (v ∷ []))
    (c.point_of.ensures.is ∙ ap (λ (size : ℕ). point_of size c.args.position.0) c.size-size.ensures))
