-- `decode_between::values_between` meets its contract: what is folded is transformed.
-- Assumes nothing.
use mathlib.Core.Path.{refl}
use native.Mathlib.Omega.{arith}
use Rattle.lists.proofs.Part.{split_part, split_returned}
use Rattle.transform_halving.specs.Transform.{transform_of}
use Rattle.decode_between.proofs.Foldable.{K_some}
use Rattle.decode_between.proofs.Valuing.{transform_asked, transformed}
use Rattle.decode_between.proofs.values_between.Goals as goal

pub nonzero_div-turns : goal.nonzero_div-turns
nonzero_div-turns c = omega (arith, K_some _ _ _ c.requires)

pub transform_by-requires : goal.transform_by-requires
transform_by-requires c =
    let s = c.split_at_mut-front.ensures in
    transform_asked _ _ _ c.requires _ c.fold.ensures _ _
    (split_part c.args.size c.args.step _ _ _ _ s.value refl (omega (arith, c.requires.K_fits)))
    s.back

pub returns : goal.returns
returns c =
    transformed _ _ _ c.requires _ c.fold.ensures _
    (split_returned c.args.size c.args.step _ _ _ _ c.split_at_mut-front.ensures.value refl (omega (arith, c.requires.K_fits))
    transform_of _ c.transform_by.ensures)
