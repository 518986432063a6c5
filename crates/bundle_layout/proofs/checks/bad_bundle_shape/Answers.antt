-- `bundle_layout::checks::bad_bundle_shape` meets its contract: the tests are SHAPE's, in its order, and B is worked out where k is above 0.
-- Assumes nothing.
use mathlib.Core.Path.{sym, ◌∙◌}
use native.Mathlib.Omega.{arith}
use borrow.Author.Rules.{rules}
use borrow.Author.Tests.{lt-ltb, le-ltb}
use Rattle.limits.proofs.Shape.{shape_good}
use Rattle.bundle_storage.specs.Blocks.{most_blocks}
use Rattle.bundle_layout.specs.Shape.{longest_file, bad_bundle_shape}
use Rattle.bundle_layout.proofs.checks.bad_bundle_shape.Goals as goal

pub returns-then-bad_shape : goal.returns-then-bad_shape
unfolding bad_bundle_shape longest_file most_blocks
returns-then-bad_shape c = simp (sym c.bad_shape.ensures ∙ c.if-bad_shape.true)

pub returns-then-length-gt-LONGEST_FILE : goal.returns-then-length-gt-LONGEST_FILE
unfolding bad_bundle_shape longest_file most_blocks
returns-then-length-gt-LONGEST_FILE c = simp (sym c.bad_shape.ensures ∙ c.if-bad_shape.false, lt-ltb _ _ c.if-length-gt-LONGEST_FILE.true)

pub blocks-requires : goal.blocks-requires
unfolding bad_bundle_shape longest_file most_blocks
blocks-requires c =
    let shape = shape_good _ _ (sym c.bad_shape.ensures ∙ c.if-bad_shape.false) in
    (shape.0, omega (arith, shape.1, shape.2), search rules)

pub returns : goal.returns
unfolding bad_bundle_shape longest_file most_blocks
returns c = simp (sym c.bad_shape.ensures ∙ c.if-bad_shape.false, le-ltb _ _ c.if-length-gt-LONGEST_FILE.false, c.blocks-2.ensures)
