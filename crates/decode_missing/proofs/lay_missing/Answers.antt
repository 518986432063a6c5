-- `decode_missing::lay_missing` meets its contract: at the loop's head the missing points of the positions passed are laid.
-- Assumes nothing.
use mathlib.Core.Path.{◌≡◌, refl, ap, ap₂, ◌∙◌}
use mathlib.Core.Bool.{cond}
use mathlib.Core.List.{List, ◌++◌}
use Prim.Native.Nat.{ℕ, ◌+◌, ◌-◌, ◌<◌}
use native.Mathlib.Omega.{arith}
use lib.Dec.{eqb}
use lib.ListN.{get_or, set, replicate}
use Rattle.field.specs.Field.{product}
use Rattle.field.specs.Points.{root_of}
use Rattle.field.specs.Roots.{root}
use Rattle.decode_missing.specs.Missing.{unmarked}
use Rattle.decode_missing.proofs.Laying.{laid_none, place_some, laid_more, laid_all, first_point, next_point, lent_marks, lent_length}
use Rattle.decode_missing.proofs.lay_missing.Invariants.{Turn}
use Rattle.decode_missing.proofs.lay_missing.Goals as goal

begun : (N : ℕ) (marks points : List ℕ) → points ≡ replicate N 0 → Turn N marks points 1 N 0
unfolding unmarked
begun N marks points zeros = record { counted = omega arith; turns = first_point N; is = laid_none N marks points zeros }

module _ (N : ℕ) (marks points : List ℕ) (turn place j : ℕ) (t : Turn N marks points turn place j) where
  more : (root p next : ℕ) (s : List ℕ) → j < N → root ≡ root_of N → p ≡ cond (eqb (get_or marks j 0) 0) (place - 1) place
      → s ≡ cond (eqb (get_or marks j 0) 0) (set points (place - 1) turn) points → next ≡ product turn root → Turn N marks s next p (j + 1)
  more root p next s l is-root is-p is-s is-next =
      let step = laid_more N marks place j t.counted turn p s l t.turns is-p
      (is-s ∙ ap (λ (c : List ℕ). cond (eqb (get_or marks j 0) 0) (set c (place - 1) turn) c) t.is) in
      record { counted = step.0; turns = next_point N j turn root next t.turns is-root is-next; is = step.1 }

  all : (rest : List ℕ) → j ≡ N → points ++ rest ≡ replicate (N - (N - place)) 0 ++ (unmarked N marks N ++ rest)
  all rest end = ap (◌++ rest) t.is ∙ (laid_all N marks place j t.counted (N - place) rest end refl).1

pub loop-mark-init : goal.loop-mark-init
loop-mark-init c = begun _ _ _ (c.split_at_mut-points.ensures.front ∙ c.requires.2)

pub lay_point-place-requires : goal.lay_point-place-requires
lay_point-place-requires c =
    let l = c.loop-mark in (
      place_some c.args.size _ l.place l.mark-index l.invariant.counted
          (omega (arith, c.loop-mark-test.true, lent_length c.args.size c.args.cells.now _ c.requires.0 c.split_at_mut-points.ensures.back)),
      omega (arith, l.auto.points, l.invariant.counted, c.split_at_mut-points.ensures.front_len),
    )

pub loop-mark-preserved : goal.loop-mark-preserved
unfolding root_of
loop-mark-preserved c =
    let l = c.loop-mark in
    more _ _ l.points l.turn l.place l.mark-index l.invariant _ _ _ _
    (omega (arith, c.loop-mark-test.true, lent_length c.args.size c.args.cells.now _ c.requires.0 c.split_at_mut-points.ensures.back))
    (c.root-root.ensures.is ∙ ap root c.level.ensures.is) c.lay_point-place.ensures.place c.lay_point-place.ensures.points c.product-turn.ensures.is

pub returns-clause-points : goal.returns-clause-points
returns-clause-points c =
    let l = c.loop-mark in
    let marks = lent_marks c.args.size c.args.cells.now _ c.split_at_mut-points.ensures.back in
    all _ _ l.points l.turn l.place l.mark-index l.invariant _
    (omega (arith, c.loop-mark-test.false, l.auto.mark-index-end, lent_length c.args.size c.args.cells.now _ c.requires.0 c.split_at_mut-points.ensures.back))
    ∙ ap₂ (λ (m s : List ℕ). replicate (c.args.size - (c.args.size - l.place)) 0 ++ (unmarked c.args.size m c.args.size ++ s)) marks c.split_at_mut-points.ensures.back
