-- `decode_divide::divide` meets its contract: the sums decide, and where nothing is missing they need but a factor.
-- Assumes nothing.
use mathlib.Core.Path.{◌≡◌, refl, ap, subst, ◌∙◌}
use mathlib.Core.Bool.{Bool, true, false, not}
use mathlib.Core.List.{List, ◌++◌}
use Prim.Native.Nat.{ℕ, ◌+◌, ◌-◌, ◌*◌, ◌≤◌}
use native.Mathlib.Nat.{le_trans}
use native.Mathlib.Omega.{arith}
use lib.ListN.{length, take, drop}
use lib.Seq.{length-take-le}
use Rattle.field.specs.Field.{inverse}
use Rattle.field.specs.Points.{root_of}
use Rattle.lists.specs.Part.{part, replaced}
use Rattle.lists.proofs.Part.{split_part, split_returned}
use Rattle.transform_halving.specs.Transform.{sums}
use Rattle.limits.specs.Shape.{bad_shape}
use Rattle.field.specs.Size.{size_of}
use Rattle.limits.proofs.Shape.{shape_good, longest_le}
use Rattle.field.proofs.Sizes.{size_enough, size_small}
use Rattle.decode_between.specs.Foldable.{Foldable}
use Rattle.decode_divide.proofs.Finding.{Finds, first_asked, first_long, quotient_room, none_found, all_found, some_found}
use Rattle.decode_divide.proofs.divide.Goals as goal

-- what N and K are known to be, as the calls give them
record Sizes (k n missing : ℕ) (d : List ℕ) (N K : ℕ) : Type 0 where
  room : Foldable N K d
  enough : k ≤ K
  short : N ≤ 65536
  counts : k + missing ≤ 131072
  fits : k ≤ N
  finds : (r : Bool) (s : List ℕ) → Finds k missing d N r s K → Finds k missing d (size_of n) r s (size_of k)

sizes : (k n missing : ℕ) (d : List ℕ) → (bad_shape k n ≡ false) × Foldable (size_of n) (size_of k) d × (missing ≤ size_of n) → (N K : ℕ)
    → N ≡ size_of n → K ≡ size_of k → Sizes k n missing d N K
sizes k n missing d pre N K N-is K-is =
    record {
      room = room;
      enough = enough;
      short = size_small N n N-is;
      counts = omega (arith, size_small N n N-is, N-is, pre.2, enough, room.K_fits);
      fits = omega (arith, enough, room.K_fits);
      finds = λ r s f. subst (λ (x : ℕ). Finds k missing d x r s (size_of k)) N-is (subst (Finds k missing d N r s) K-is f);
    }
  where
    room : Foldable N K d
    room = rw (N-is, K-is) pre.1

    enough : k ≤ K
    enough = let good = shape_good k n pre.0 in rw K-is (size_enough k (le_trans (le_trans good.1 good.2) longest_le))

-- what the first transform leaves, which was lent the first N cells of all before the powers
left : (N K : ℕ) (d x y e : List ℕ) → Foldable N K d → d ≡ x ++ y → length x ≡ 3 * N
    → e ≡ sums (inverse (root_of (length (take (N - 0) x)))) (take (N - 0) x)
    → (e ++ drop (N - 0) x) ++ y ≡ replaced 0 N d (sums (inverse (root_of N)) (part 0 N d))
left N K d x y e room split long back =
    split_returned 0 N N d x y split (omega arith) (omega (arith, long)) (λ (l : List ℕ). sums (inverse (root_of (length l))) l) e back
    ∙ ap (λ (n : ℕ). replaced 0 N d (sums (inverse (root_of n)) (part 0 N d))) (length-take-le N d (omega (arith, room.table.long)))

pub overflow_mul-size : goal.overflow_mul-size
overflow_mul-size c =
    let z = sizes _ _ _ _ c.requires _ _ c.size-size.ensures c.size-step.ensures in
    omega (arith, z.short)

pub back_by-requires : goal.back_by-requires
back_by-requires c =
    let z = sizes _ _ _ _ c.requires _ _ c.size-size.ensures c.size-step.ensures in
    let s = c.split_at_mut-front.ensures in
    first_asked _ c.args.missing _ _ _ z.room z.enough _ _ (split_part 0 c.size-size.result _ _ _ _ s.value (omega arith) (omega arith)) s.back

pub overflow_add-k : goal.overflow_add-k
overflow_add-k c =
    let z = sizes _ _ _ _ c.requires _ _ c.size-size.ensures c.size-step.ensures in
    omega (arith, z.counts)

pub returns-then-not-zero_from : goal.returns-then-not-zero_from
returns-then-not-zero_from c =
    let z = sizes _ _ _ _ c.requires _ _ c.size-size.ensures c.size-step.ensures in
    let s = c.split_at_mut-front.ensures in
    let all = z.finds false _
    (none_found _ _ _ _ _ z.room z.enough _ (left _ _ _ _ _ _ z.room s.value s.front_len c.back_by.ensures)
    c.zero_from.result (ap not c.if-not-zero_from.true) c.zero_from.ensures) in
    record { divided = all.0; rest = all.1 }

pub slice_bounds-scale-end : goal.slice_bounds-scale-end
slice_bounds-scale-end c =
    let z = sizes _ _ _ _ c.requires _ _ c.size-size.ensures c.size-step.ensures in
    let s = c.split_at_mut-front.ensures in
    omega (arith, first_long _ c.args.missing _ _ _ z.room z.enough _ (left _ _ _ _ _ _ z.room s.value s.front_len c.back_by.ensures), z.fits, z.room.table.long)

pub overflow_cast-size : goal.overflow_cast-size
overflow_cast-size c =
    let z = sizes _ _ _ _ c.requires _ _ c.size-size.ensures c.size-step.ensures in
    omega (arith, z.short)

pub returns-then-missing-eq0 : goal.returns-then-missing-eq0
returns-then-missing-eq0 c =
    let z = sizes _ _ _ _ c.requires _ _ c.size-size.ensures c.size-step.ensures in
    let s = c.split_at_mut-front.ensures in
    let all = z.finds true _
    (all_found _ _ _ _ _ z.room z.enough _ (left _ _ _ _ _ _ z.room s.value s.front_len c.back_by.ensures)
    c.zero_from.result (ap not c.if-not-zero_from.false) c.zero_from.ensures c.if-missing-eq0.true _ c.inverse.ensures.is _ _ c.scale.ensures refl) in
    record { divided = all.0; rest = all.1 }

pub quotient-requires : goal.quotient-requires
quotient-requires c =
    let z = sizes _ _ _ _ c.requires _ _ c.size-size.ensures c.size-step.ensures in
    let s = c.split_at_mut-front.ensures in
    (quotient_room _ c.args.missing _ _ _ z.room z.enough _ (left _ _ _ _ _ _ z.room s.value s.front_len c.back_by.ensures), z.enough)

pub returns : goal.returns
returns c =
    let z = sizes _ _ _ _ c.requires _ _ c.size-size.ensures c.size-step.ensures in
    let s = c.split_at_mut-front.ensures in
    let all = z.finds true _
    (some_found _ _ _ _ _ z.room z.enough _ (left _ _ _ _ _ _ z.room s.value s.front_len c.back_by.ensures)
    c.zero_from.result (ap not c.if-not-zero_from.false) c.zero_from.ensures _ (omega (arith, c.if-missing-eq0.false))
    c.quotient.ensures.quotient c.quotient.ensures.rest) in
    record { divided = all.0; rest = all.1 }
