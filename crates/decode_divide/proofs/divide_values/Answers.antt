-- `decode_divide::divide_values` meets its contract: at the loop's head i values are divided.
-- Assumes nothing.
use mathlib.Core.Path.{◌≡◌, sym, ap, ap₂, ◌∙◌}
use mathlib.Core.List.{List, ◌++◌}
use Prim.Native.Nat.{ℕ, ◌+◌, ◌-◌, ◌*◌, ◌≤◌}
use native.Mathlib.Nat.{zero-add}
use native.Mathlib.Omega.{arith}
use lib.ListN.{length, get_or, take, drop, length-drop, take-append-drop}
use lib.Seq.{length-take-le, get_or-drop}
use Rattle.field.specs.Field.{product}
use Rattle.lists.specs.Part.{replaced}
use Rattle.lists.specs.Tab.{tab}
use Rattle.lists.proofs.Part.{lent_at, lent_at_length, middle_returned}
use Rattle.lists.proofs.Tab.{tab_ext}
use Rattle.lists.proofs.Window.{window_none, window_store, window_past, window_done}
use Rattle.decode_divide.proofs.divide_values.Goals as goal

pub loop-i-init : goal.loop-i-init
loop-i-init c = window_none 0 _ _

-- what is divided is not written yet
pub loop-i-preserved : goal.loop-i-preserved
loop-i-preserved c =
    let l = c.loop-i in
    window_store 0 l.i l.i _ _ l.value-items _ (sym (zero-add l.i)) (omega arith) l.invariant
    (c.product.ensures.is
    ∙ ap (λ (x : ℕ). product x (get_or c.split_at_mut-front.result.1.now l.i 0))
    (ap (λ (s : List ℕ). get_or s l.i 0) l.invariant ∙ window_past 0 l.i l.i _ _ (omega arith) (omega arith)))

module _ (N K : ℕ) (d front inverses : List ℕ) (fits : K ≤ N) (value : d ≡ front ++ inverses) (long : length front ≡ 2 * N) (back : inverses ≡ drop (2 * N) d) where
  all : tab K (λ j. product (get_or (take (N + K - N) (drop N front)) j 0) (get_or inverses j 0)) ≡ tab K (λ i. product (get_or d (N + i) 0) (get_or d (2 * N + i) 0))
  all =
      tab_ext K _ _ (λ i l.
      ap₂ product
      (lent_at N K i d front inverses value (omega (arith, long, fits)) l)
      (ap (λ (s : List ℕ). get_or s i 0) back ∙ get_or-drop (2 * N) d i 0))

  returned : (new : List ℕ) → (take N front ++ (new ++ drop (N + K - N) (drop N front))) ++ inverses ≡ replaced N K d new
  returned new =
      middle_returned N K d front inverses (take N front) (drop N front) value (sym (take-append-drop N front))
      (length-take-le N front (omega (arith, long))) (omega (arith, length-drop N front, long, fits)) (N + K - N) new (omega arith)

pub returns : goal.returns
returns c =
    let l = c.loop-i in
    let split = c.split_at_mut-front in
    let d = c.args.cells.now in
    let long = lent_at_length c.args.size c.args.step split.result.0.now (omega (arith, split.ensures.front_len, c.requires.1)) in
    returned c.args.size c.args.step d _ _ c.requires.1 split.ensures.value split.ensures.front_len split.ensures.back l.value-items
    ∙ ap (replaced c.args.size c.args.step d)
    (window_done c.args.step l.i _ _ _ long (omega (arith, long, l.auto.i-end)) (omega (arith, long, c.loop-i-test.false)) l.invariant
    ∙ all c.args.size c.args.step d _ _ c.requires.1 split.ensures.value split.ensures.front_len split.ensures.back)
