-- `decode_prepare::begin` meets its contract, step by step.
-- Assumes nothing.
use mathlib.Core.Path.{◌≡◌, ap, ◌∙◌}
use Prim.Native.Nat.{ℕ, suc, ◌+◌}
use native.Mathlib.Numerals.{add-one}
use Rattle.field.specs.Roots.{root}
use Rattle.field.specs.Size.{level_of}
use Rattle.decode_between.specs.Between.{psi}
use Rattle.decode_prepare.proofs.Preparing.{begun_count, begun_front, begun_powers}
use Rattle.decode_prepare.proofs.begin.Goals as goal

-- ψ as the calls find it
psi_is : (N e x : ℕ) → e ≡ level_of N → x ≡ root (e + 1) → x ≡ psi N
unfolding psi
psi_is N e x level is = is ∙ ap root (add-one e ∙ ap suc level)

pub returns : goal.returns
returns c = record { missing = begun_count _ _ c.requires.0 _ (psi_is _ _ _ c.level.ensures.is c.root-twist.ensures.is) _ c.lay_powers.ensures _ c.clear.ensures _ _ c.lay_missing.ensures.missing c.lay_missing.ensures.points; points = begun_front _ _ c.requires.0 _ (psi_is _ _ _ c.level.ensures.is c.root-twist.ensures.is) _ c.lay_powers.ensures _ c.clear.ensures _ _ c.lay_missing.ensures.missing c.lay_missing.ensures.points; powers = begun_powers _ _ c.requires.0 _ (psi_is _ _ _ c.level.ensures.is c.root-twist.ensures.is) _ c.lay_powers.ensures _ c.clear.ensures _ _ c.lay_missing.ensures.missing c.lay_missing.ensures.points }
