-- `decode_prepare::invert` meets its contract: at the loop's head i inverses stand behind the values.
-- Assumes nothing.
use mathlib.Core.Path.{◌≡◌, sym, ap, ap₂, ◌∙◌}
use mathlib.Core.List.{List, ◌++◌}
use Prim.Native.Nat.{ℕ, ◌+◌, ◌-◌, ◌*◌, ◌≤◌}
use native.Mathlib.Nat.{zero-add}
use native.Mathlib.Omega.{arith}
use lib.ListN.{length, get_or, take, drop}
use lib.Seq.{drop-drop}
use Rattle.field.specs.Field.{product, inverse}
use Rattle.lists.specs.Part.{replaced}
use Rattle.lists.specs.Tab.{tab}
use Rattle.lists.proofs.Part.{lent_at, lent_at_length}
use Rattle.lists.proofs.Tab.{tab_ext}
use Rattle.lists.proofs.Window.{window, window_none, window_store}
use Rattle.decode_prepare.specs.Inverted.{inverses_of}
use Rattle.decode_prepare.proofs.invert.Goals as goal

-- what is written, behind the front
returned : (N K i factor : ℕ) (d front inverses new : List ℕ) → length front ≡ 2 * N → K ≤ N → i ≡ K → factor ≡ product N K
    → d ≡ front ++ inverses → front ≡ take (2 * N) d → inverses ≡ drop (2 * N) d
    → new ≡ window 0 i (λ j. inverse (product factor (get_or (take (N + K - N) (drop N front)) j 0))) inverses
    → front ++ new ≡ replaced (2 * N) K d (inverses_of N K (λ j. get_or d (N + j) 0))
unfolding window
returned N K i factor d front inverses new long fits all factored value front_is back_is is =
    ap₂ ◌++◌ front_is
    (is
    ∙ ap₂ (λ (n m : ℕ). tab n (λ j. inverse (product factor (get_or (take (N + K - N) (drop N front)) j 0))) ++ drop m inverses) all drops
    ∙ ap₂ ◌++◌
    (tab_ext K _ _ (λ j l. ap inverse (ap₂ product factored (lent_at N K j d front inverses value (omega (arith, long, fits)) l))))
    (ap (drop K) back_is ∙ drop-drop K (2 * N) d))
  where
    drops : 0 + i ≡ K
    drops = omega (arith, all)

pub loop-i-init : goal.loop-i-init
loop-i-init c = window_none 0 _ _

pub loop-i-preserved : goal.loop-i-preserved
loop-i-preserved c =
    let l = c.loop-i in
    window_store 0 l.i l.i _ _ l.inverses _ (sym (zero-add l.i)) (omega (arith, c.loop-i-test.true, lent_at_length c.args.size c.args.step c.split_at_mut-front.result.0.now (omega (arith, c.split_at_mut-front.ensures.front_len, c.requires.1)), c.split_at_mut-front.ensures.back_len, c.requires.0, c.requires.1)) l.invariant (c.inverse.ensures.is ∙ ap inverse c.product.ensures.is)

pub returns : goal.returns
returns c =
    let l = c.loop-i in
    let split = c.split_at_mut-front in
    let long = lent_at_length c.args.size c.args.step split.result.0.now (omega (arith, split.ensures.front_len, c.requires.1)) in
    returned c.args.size c.args.step l.i c.product-factor.result c.args.cells.now _ _ l.inverses split.ensures.front_len c.requires.1 (omega (arith, long, l.auto.i-end, c.loop-i-test.false)) c.product-factor.ensures.is
    split.ensures.value split.ensures.front split.ensures.back l.invariant
