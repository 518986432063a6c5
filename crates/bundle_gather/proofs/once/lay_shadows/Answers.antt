-- `bundle_gather::once::lay_shadows` meets its contract: at the loop's head the first t shadows are laid.
-- Assumes nothing.
use mathlib.Core.Path.{subst, ◌∙◌}
use Prim.Native.Nat.{ℕ}
use native.Mathlib.Omega.{arith}
use borrow.Author.Rules.{rules}
use Rattle.bundle_gather.specs.Gathering.{Shadows}
use Rattle.bundle_gather.proofs.Kept.{below, held_room}
use Rattle.bundle_gather.proofs.Starting.{shadows_none, shadow_long, shadows_more}
use Rattle.bundle_gather.proofs.once.lay_shadows.Goals as goal

pub loop-t-init : goal.loop-t-init
loop-t-init c = (search rules, shadows_none c.args.bundle.bytes.now c.args.cells.now)

pub lay_shadow-requires : goal.lay_shadow-requires
lay_shadow-requires c =
    let h = below _ _ _ c.loop-t-test.true c.held-t-end.ensures.0 in
    (h, omega (arith, held_room c.args.bundle.bytes.now c.args.bundle.good, h, c.requires.0), c.loop-t.invariant.0 ∙ c.requires.1)

pub loop-t-preserved : goal.loop-t-preserved
loop-t-preserved c =
    let l = c.loop-t in
    let s = c.args.bundle.bytes.now in
    let h = below _ _ _ c.loop-t-test.true c.held-t-end.ensures.0 in (
      shadow_long s c.args.bundle.good l.t _ h c.requires.0 l.cells _ (l.invariant.0 ∙ c.requires.1) c.lay_shadow.ensures ∙ l.invariant.0,
      shadows_more s c.args.bundle.good l.t _ h c.requires.0 l.cells _ (l.invariant.0 ∙ c.requires.1) c.lay_shadow.ensures l.invariant.1,
    )

pub returns : goal.returns
returns c =
    let l = c.loop-t in
    subst (λ (m : ℕ). Shadows c.args.bundle.bytes.now m l.cells) (omega (arith, c.loop-t-test.false, c.held-t-end.ensures.0)) l.invariant.1
