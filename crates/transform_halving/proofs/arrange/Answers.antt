-- `transform_halving::arrange` meets its contract: at the loop's head the places below i, and their reverses, have changed.
-- Assumes nothing.
use mathlib.Core.Path.{◌≡◌, sym, ◌∙◌}
use mathlib.Core.List.{List}
use mathlib.Core.Logic.{inl}
use Prim.Native.Nat.{ℕ, ◌+◌, ◌^◌, ◌<◌}
use native.Mathlib.Omega.{arith}
use lib.ListN.{length}
use Rattle.field.specs.Size.{level_of, size_of}
use Rattle.transform_halving.specs.Order.{reversed, arranged, exchanged, IsNext}
use Rattle.transform_halving.proofs.Arranging.{Paired, arranging_none, arranging_more, arranging_all}
use Rattle.transform_halving.proofs.Order.{reversed_lt, reversed_twice, reversed_zero}
use Rattle.transform_halving.proofs.arrange.Invariants.{Met}
use Rattle.transform_halving.proofs.arrange.Goals as goal

-- a place and the one with its digits in reverse
paired : (d : List ℕ) → length d ≡ 2 ^ level_of (length d) → Paired (length d) (reversed (level_of (length d)))
paired d size =
    record {
      below = λ x h. omega (arith, size, reversed_lt (level_of (length d)) x);
      twice = λ x h. reversed_twice (level_of (length d)) x (omega (arith, size));
    }

module _ (d : List ℕ) (size : length d ≡ 2 ^ level_of (length d)) (list : List ℕ) (long : length list ≡ length d) (i place : ℕ) (m : Met d list i place) (h : i < length d) where
  below : place < length list
  below = omega (arith, m.reverse, reversed_lt (level_of (length d)) i)

  more : (last : List ℕ) (next : ℕ) → last ≡ exchanged list i place → length last ≡ length list → IsNext next place (length last)
      → Met d last (i + 1) next
  more last next change same after =
      record {
        reverse = after.next (level_of (length d)) i (same ∙ long ∙ size) m.reverse;
        arranging = rw (change, m.reverse) (arranging_more (length d) _ (paired d size) d list i h long m.arranging);
      }

pub loop-i-init : goal.loop-i-init
loop-i-init c = record { reverse = sym (reversed_zero _); arranging = arranging_none _ _ _ }

pub exchange-requires : goal.exchange-requires
unfolding size_of
exchange-requires c =
    let l = c.loop-i in
    let inside = below _ c.requires l.list l.auto.list l.i l.place l.invariant c.loop-i-test.true in
    (omega arith, omega arith)

pub loop-i-preserved : goal.loop-i-preserved
unfolding size_of
loop-i-preserved c =
    let l = c.loop-i in
    more _ c.requires l.list l.auto.list l.i l.place l.invariant c.loop-i-test.true _ _
    c.exchange.ensures
    c.exchange.auto.list
    c.next_place-place.ensures

pub returns : goal.returns
unfolding arranged
returns c =
    let l = c.loop-i in
    arranging_all _ _ l.list l.i l.auto.list l.invariant.arranging (λ x h. inl (omega arith))
