-- `decode_between::fold_one` meets its contract: at the loop's head b terms are added up, each no more than 2^32.
-- Assumes nothing.
use mathlib.Core.Path.{◌≡◌, refl, sym, ap₂, ◌∙◌}
use mathlib.Core.List.{List}
use Prim.Native.Nat.{ℕ, ◌+◌, ◌*◌, ◌/◌, ◌<◌, ◌≤◌}
use native.Mathlib.Nat.{div-le_self}
use native.Mathlib.Omega.{arith}
use lib.ListN.{length, get_or}
use Rattle.poly.specs.Sum.{total}
use Rattle.poly.proofs.Sum.{total_more}
use Rattle.decode_between.specs.Foldable.{Columns}
use Rattle.decode_between.proofs.Foldable.{powers_small, inside, column_power, term_le}
use Rattle.decode_between.proofs.fold_one.Invariants.{Turn, term}
use Rattle.decode_between.proofs.fold_one.Goals as goal

module _ (K i : ℕ) (f powers : List ℕ) (columns : Columns K f powers) (li : i < K) (sum b : ℕ) (t : Turn (length f) K i f sum b) (l : b < length f / K)
    (x y : ℕ) (one : x ≡ get_or f (b * K + i) 0) (other : y ≡ get_or powers (b * K + i) 0) where
  product_low : x * y ≤ 4294967296
  product_low = rw (one, other) (term_le K f powers columns (b * K + i) (inside K f powers columns b i l li))

  sum_low : sum + x * y ≤ 281474976710656
  sum_low = omega (arith, t.low, product_low, l, div-le_self (length f) K, powers_small powers columns.table, columns.long)

  more : Turn (length f) K i f (sum + x * y) (b + 1)
  more =
      record {
        is = ap₂ ◌+◌ t.is (ap₂ ◌*◌ one (other ∙ column_power K f powers columns (b * K + i) (inside K f powers columns b i l li))) ∙ sym (total_more b (term (length f) K i f));
        low = omega (arith, t.low, product_low);
      }

pub loop-b-init : goal.loop-b-init
unfolding total
loop-b-init c = record { is = refl; low = omega arith }

pub bounds-powers-at : goal.bounds-powers-at
bounds-powers-at c =
    omega (arith, inside c.args.step c.args.coefficients.now c.args.powers.now c.requires.0 c.loop-b.b c.args.i c.loop-b-test.true c.requires.1, c.requires.0.long)

pub overflow_add-sum : goal.overflow_add-sum
overflow_add-sum c =
    let l = c.loop-b in
    omega (arith, sum_low _ _ _ _ c.requires.0 c.requires.1 l.sum l.b l.invariant c.loop-b-test.true _ _ c.from.ensures c.from-in-loop-b.ensures)

pub loop-b-preserved : goal.loop-b-preserved
loop-b-preserved c =
    let l = c.loop-b in
    more _ _ _ _ c.requires.0 c.requires.1 l.sum l.b l.invariant c.loop-b-test.true _ _ c.from.ensures c.from-in-loop-b.ensures
