-- `decode_divide::quotient` meets its contract, step by step.
-- Assumes nothing.
use mathlib.Core.Path.{◌≡◌, refl}
use mathlib.Core.List.{List, ◌++◌}
use Prim.Native.Nat.{ℕ, ◌+◌, ◌-◌, ◌*◌, ◌≤◌}
use native.Mathlib.Omega.{arith}
use lib.ListN.{length, take, drop}
use Rattle.field.specs.Field.{inverse}
use Rattle.field.specs.Points.{root_of}
use Rattle.lists.specs.Part.{part, replaced}
use Rattle.lists.proofs.Part.{split_part, split_returned}
use Rattle.transform_halving.specs.Transform.{sums}
use Rattle.decode_between.proofs.Foldable.{K_some}
use Rattle.decode_divide.proofs.Quotienting.{divide_asked, back_asked, untwist_asked, front_is, rest_is}
use Rattle.decode_divide.proofs.quotient.Goals as goal

pub divide_values-requires : goal.divide_values-requires
divide_values-requires c = divide_asked _ _ _ _ c.requires.0 c.requires.1 _ c.values_between.ensures

pub nonzero_div-turns : goal.nonzero_div-turns
nonzero_div-turns c = omega (arith, K_some _ _ _ c.requires.0)

pub back_by-requires : goal.back_by-requires
back_by-requires c =
    let s = c.split_at_mut-front.ensures in
    back_asked _ _ _ _ c.requires.0 c.requires.1 _ c.values_between.ensures _ c.divide_values.ensures _ _
    (split_part c.args.size c.args.step _ _ _ _ s.value refl (omega (arith, c.requires.0.K_fits)))
    s.back

-- what the way back leaves
back_left : (N K : ℕ) (d x y e : List ℕ) → K ≤ N → length x ≡ 3 * N → d ≡ x ++ y
    → e ≡ sums (inverse (root_of (length (take (N + K - N) (drop N x))))) (take (N + K - N) (drop N x))
    → (take N x ++ (e ++ drop (N + K - N) (drop N x))) ++ y ≡ replaced N K d (sums (inverse (root_of (length (part N K d)))) (part N K d))
back_left N K d x y e fits long split back =
    split_returned N K (N + K) d x y split refl (omega (arith, fits, long)) (λ (l : List ℕ). sums (inverse (root_of (length l))) l) e back

pub untwist-requires : goal.untwist-requires
untwist-requires c =
    let s = c.split_at_mut-front.ensures in
    untwist_asked _ _ _ _ c.requires.0 c.requires.1 _ c.values_between.ensures _ c.divide_values.ensures _
    (back_left _ _ _ _ _ _ c.requires.0.K_fits s.front_len s.value c.back_by.ensures)

pub returns : goal.returns
returns c =
    let s = c.split_at_mut-front.ensures in
    let left = back_left _ _ _ _ _ _ c.requires.0.K_fits s.front_len s.value c.back_by.ensures in
    record {
      quotient = front_is _ _ _ _ c.requires.0 c.requires.1 _ c.values_between.ensures _ c.divide_values.ensures _ left _ c.untwist.ensures;
      rest = rest_is _ _ _ _ c.requires.0 c.requires.1 _ c.values_between.ensures _ c.divide_values.ensures _ left _ c.untwist.ensures;
    }
