-- `bundle_gather::once::mark_held` meets its contract: at the loop's head the positions of the first t shadows are marked.
-- Assumes nothing.
use mathlib.Core.Path.{◌≡◌, sym, ap, ◌∙◌}
use mathlib.Core.List.{List, []}
use Prim.Native.Nat.{ℕ, ◌<◌}
use native.Mathlib.Omega.{arith}
use lib.ListN.{length}
use Rattle.answers.specs.Refusals.{the_result}
use Rattle.field.specs.Size.{size_of}
use Rattle.bundle_layout.specs.Fields.{n_in, held_in, position_in}
use Rattle.bundle_layout.specs.Layout.{layout_checks}
use Rattle.bundle_gather.specs.Gathering.{marks_in}
use Rattle.bundle_gather.proofs.Kept.{below}
use Rattle.bundle_gather.proofs.Marking.{position_inside, marks_long, marks_none, marks_more}
use Rattle.bundle_gather.proofs.once.mark_held.Goals as goal

place : (s : List ℕ) → layout_checks s ≡ the_result [] → (t at : ℕ) → t < held_in s → at ≡ position_in s t → at < size_of (n_in s)
place s good t at h is = omega (arith, position_inside s good t h)

long : (s : List ℕ) (t : ℕ) (marks : List ℕ) → marks ≡ marks_in s t → length marks ≡ size_of (n_in s)
long s t marks is = ap length is ∙ marks_long s t

pub loop-t-init : goal.loop-t-init
loop-t-init c = marks_none c.args.bundle.bytes.now _ _ c.requires c.clear.ensures

pub bounds-marks-entry : goal.bounds-marks-entry
bounds-marks-entry c =
    omega (
      arith,
      place c.args.bundle.bytes.now c.args.bundle.good _ _ (below _ _ _ c.loop-t-test.true c.held-t-end.ensures.0) c.entry.ensures.position.0,
      long c.args.bundle.bytes.now _ _ c.loop-t.invariant,
    )

pub loop-t-preserved : goal.loop-t-preserved
loop-t-preserved c = marks_more c.args.bundle.bytes.now c.loop-t.t _ c.loop-t.marks c.entry.ensures.position.0 c.loop-t.invariant

pub shape_of-marks : goal.shape_of-marks
shape_of-marks c = long c.args.bundle.bytes.now _ _ c.loop-t.invariant ∙ sym c.requires

pub returns : goal.returns
returns c = c.loop-t.invariant ∙ ap (marks_in c.args.bundle.bytes.now) (omega (arith, c.loop-t-test.false, c.held-t-end.ensures.0))
