-- `decode_prepare::weigh` meets its contract, step by step.
-- Assumes nothing.
use native.Mathlib.Omega.{arith}
use Rattle.lists.proofs.Part.{split_part, split_returned}
use Rattle.transform_halving.specs.Transform.{transform_of}
use Rattle.decode_prepare.proofs.Weighing.{invert_asked, transform_asked, weighed, inverses_are, powers_stay}
use Rattle.decode_prepare.proofs.weigh.Goals as goal

pub invert-requires : goal.invert-requires
invert-requires c = invert_asked _ _ _ c.requires _ c.values_between.ensures

pub transform_by-requires : goal.transform_by-requires
transform_by-requires c =
    let s = c.split_at_mut-front.ensures in
    transform_asked _ _ _ c.requires _ c.values_between.ensures _ c.invert.ensures _ _
    (split_part 0 c.args.size _ _ _ _ s.value (omega arith) (omega arith))
    s.back

pub returns : goal.returns
returns c =
    let weighs = split_returned 0 c.args.size _ _ _ _ c.split_at_mut-front.ensures.value (omega arith) (omega arith) transform_of _ c.transform_by.ensures in
    record {
      values = weighed _ _ _ c.requires _ c.values_between.ensures _ c.invert.ensures _ weighs;
      inverses = inverses_are _ _ _ c.requires _ c.values_between.ensures _ c.invert.ensures _ weighs;
      rest = powers_stay _ _ _ c.requires _ c.values_between.ensures _ c.invert.ensures _ weighs;
    }
