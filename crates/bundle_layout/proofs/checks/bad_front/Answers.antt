-- `bundle_layout::checks::bad_front` meets its contract: the tests are FORM's first three, in its order.
-- Assumes nothing.
use mathlib.Core.Path.{sym, ap, ◌∙◌}
use mathlib.Core.Bool.{not}
use borrow.Author.Tests.{lt-ltb, le-ltb}
use Rattle.bundle_layout.specs.Fields.{last_in}
use Rattle.bundle_layout.specs.Layout.{bad_front}
use Rattle.bundle_layout.specs.Mark.{mark}
use Rattle.bundle_layout.specs.Shadows.{header_size}
use Rattle.bundle_layout.proofs.Fronts.{mark_found}
use Rattle.bundle_layout.proofs.checks.bad_front.Goals as goal

pub returns-then-bundle-lt16 : goal.returns-then-bundle-lt16
unfolding bad_front header_size mark last_in
returns-then-bundle-lt16 c = simp (lt-ltb _ _ c.if-bundle-lt16.true)

pub returns-then-not-starts_with : goal.returns-then-not-starts_with
unfolding bad_front header_size mark last_in
returns-then-not-starts_with c =
    simp (
      le-ltb _ _ c.if-bundle-lt16.false,
      ap not (sym (mark_found _ c.if-bundle-lt16.false) ∙ sym c.starts_with.ensures.value ∙ c.if-not-starts_with.true),
    )
    (ap not c.if-not-starts_with.true)

pub returns-else-not-starts_with : goal.returns-else-not-starts_with
unfolding bad_front header_size mark last_in
returns-else-not-starts_with c =
    simp (
      le-ltb _ _ c.if-bundle-lt16.false,
      ap not (sym (mark_found _ c.if-bundle-lt16.false) ∙ sym c.starts_with.ensures.value ∙ c.if-not-starts_with.false),
      c.two_at.ensures.0,
    )
