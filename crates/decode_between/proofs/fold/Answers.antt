-- `decode_between::fold` meets its contract: at the loop's head i entries stand in the room.
-- Assumes nothing.
use mathlib.Core.Path.{◌≡◌, sym, ap, ap₂, ◌∙◌}
use mathlib.Core.List.{List}
use Prim.Native.Nat.{ℕ, ◌-◌, ◌*◌, ◌≤◌}
use native.Mathlib.Nat.{zero-add}
use native.Mathlib.Omega.{arith}
use lib.ListN.{length, take, drop, length-take}
use lib.Seq.{take-take}
use Rattle.lists.specs.Part.{replaced}
use Rattle.lists.specs.Tab.{tab}
use Rattle.lists.proofs.Part.{middle_returned}
use Rattle.lists.proofs.Window.{window_none, window_store, window_done}
use Rattle.decode_between.specs.Between.{folded, folded_at}
use Rattle.decode_between.specs.Foldable.{Columns, Foldable}
use Rattle.decode_between.proofs.Foldable.{lent_columns}
use Rattle.decode_between.proofs.fold.Goals as goal

module _ (N K : ℕ) (d front f powers : List ℕ) (room : Foldable N K d) (front_is : front ≡ take (3 * N) d) (f_is : f ≡ take N front) (powers_is : powers ≡ drop (3 * N) d) where
  coefficients : f ≡ take N d
  coefficients = f_is ∙ ap (take N) front_is ∙ take-take N (3 * N) d (omega arith)

  lent : Columns K f powers × (length f ≡ N)
  lent = lent_columns N K d room f powers coefficients powers_is

  -- what is written is the fold
  all : tab K (folded_at (length f) K f) ≡ folded N K (take N d)
  unfolding folded
  all = ap₂ (λ (n : ℕ) (s : List ℕ). tab K (folded_at n K s)) lent.1 coefficients

pub loop-i-init : goal.loop-i-init
loop-i-init c = window_none 0 _ _

pub fold_one-requires : goal.fold_one-requires
fold_one-requires c = (
  (lent _ _ c.args.cells.now _ _ _ c.requires c.split_at_mut-front.ensures.front c.split_at_mut-coefficients.ensures.front c.split_at_mut-front.ensures.back).0,
  omega (arith, c.loop-i-test.true, length-take (c.args.step - 0) c.split_at_mut-coefficients.result.1.now),
)

pub loop-i-preserved : goal.loop-i-preserved
loop-i-preserved c =
    let l = c.loop-i in
    window_store 0 l.i l.i _ _ l.value-items _ (sym (zero-add l.i)) (omega arith) l.invariant c.fold_one.ensures.is

pub returns : goal.returns
returns c =
    let l = c.loop-i in
    let d = c.args.cells.now in
    let room = c.split_at_mut-coefficients.result.1.now in
    let enough : c.args.step ≤ length room = omega (arith, c.split_at_mut-coefficients.ensures.back_len, c.split_at_mut-front.ensures.front_len, c.requires.K_fits) in
    middle_returned c.args.size c.args.step d _ _ _ room c.split_at_mut-front.ensures.value c.split_at_mut-coefficients.ensures.value
    c.split_at_mut-coefficients.ensures.front_len enough _ _ (omega arith)
    ∙ ap (replaced c.args.size c.args.step d)
    (window_done c.args.step l.i _ _ _ (length-take (c.args.step - 0) room ∙ omega arith) (omega (arith, l.auto.i-end, length-take (c.args.step - 0) room))
    (omega (arith, c.loop-i-test.false, length-take (c.args.step - 0) room)) l.invariant
    ∙ all _ _ d _ _ _ c.requires c.split_at_mut-front.ensures.front c.split_at_mut-coefficients.ensures.front c.split_at_mut-front.ensures.back)
