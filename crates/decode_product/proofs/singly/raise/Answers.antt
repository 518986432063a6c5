-- `decode_product::singly::raise` meets its contract: at the loop's head i coefficients of the product stand, and passed is the one of L that was passed last.
-- Assumes nothing.
use mathlib.Core.Path.{◌≡◌, refl, sym, ap, ◌∙◌}
use mathlib.Core.List.{List, ◌∷◌}
use Prim.Native.Nat.{ℕ, ◌+◌, ◌<◌, ◌≤◌}
use native.Mathlib.Nat.{zero-add}
use native.Mathlib.Numerals.{add-one}
use native.Mathlib.Omega.{arith}
use lib.Dec.{lit<}
use lib.ListN.{length, get_or, take, set}
use Rattle.field.specs.Field.{difference, product}
use Rattle.field.specs.Symbol.{Symbols}
use Rattle.poly.specs.Raised.{raised}
use Rattle.poly.proofs.Raised.{raised_length, raised_at}
use Rattle.lists.proofs.Tab.{tab_ext, tab_part}
use Rattle.lists.proofs.Window.{window_none, window_store, window_past, window_done}
use Rattle.decode_product.proofs.singly.raise.Invariants.{Turn}
use Rattle.decode_product.proofs.singly.raise.Goals as goal

module _ (w : List ℕ) (x : ℕ) (symbols : Symbols w) (cells : List ℕ) (passed i : ℕ) (t : Turn w x cells passed i) where
  more : i < length w → (v m : ℕ) → m ≡ product x (get_or cells i 0) → v ≡ difference passed m
      → Turn w x (set cells i v) (get_or cells i 0) (i + 1)
  more l v m mul new =
      record {
        carried = here ∙ ap (λ (n : ℕ). get_or (0 ∷ w) n 0) (sym (add-one i));
        small = rw here (symbols i l);
        is =
            window_store 0 i i _ w cells v (sym (zero-add i)) l t.is
            (new ∙ rw (mul, t.carried, here) (sym (raised_at x 0 w i l)));
      }
    where
      -- what stands there is not written yet
      here : get_or cells i 0 ≡ get_or w i 0
      here = ap (λ (l : List ℕ). get_or l i 0) t.is ∙ window_past 0 i i _ w (omega arith) (omega arith)

  ended : i ≤ length w → length w ≤ i → cells ≡ take (length w) (raised x 0 w)
  ended le ge =
      window_done (length w) i _ w cells refl le ge t.is
      ∙ tab_ext (length w) _ _ (λ j h. ap (λ (n : ℕ). get_or (raised x 0 w) n 0) (sym (zero-add j)))
      ∙ tab_part 0 (length w) (raised x 0 w) (omega (arith, raised_length x 0 w))

pub loop-cell-init : goal.loop-cell-init
loop-cell-init c = record { carried = refl; small = lit< tt; is = window_none 0 _ _ }

pub loop-cell-preserved : goal.loop-cell-preserved
loop-cell-preserved c =
    let l = c.loop-cell in
    more _ _ c.requires l.cells l.passed l.cell-index l.invariant c.loop-cell-test.true _ _ c.product.ensures.is c.difference.ensures.is

pub returns : goal.returns
returns c =
    let l = c.loop-cell in
    ended _ _ c.requires l.cells l.passed l.cell-index l.invariant l.auto.cell-index-end c.loop-cell-test.false
