-- `decode_product::sums::run` meets its contract: at the loop's head the products of the numbers passed are added up.
-- Assumes nothing.
use mathlib.Core.Path.{◌≡◌, refl, ap₂, sym, ◌∙◌}
use mathlib.Core.List.{List}
use Prim.Native.Nat.{ℕ, suc, ◌+◌, ◌-◌, ◌*◌, ◌<◌, ◌≤◌}
use native.Mathlib.Omega.{arith}
use borrow.Author.Rules.{rules}
use lib.ListN.{length, get_or}
use Rattle.std.proofs.lemmas.List.{length_push}
use Rattle.poly.specs.Sum.{total}
use Rattle.poly.proofs.Sum.{total_more}
use Rattle.field.proofs.Ring.{symbols_product}
use Rattle.decode_product.specs.Factors.{run}
use Rattle.decode_product.specs.Halves.{ShortLists}
use Rattle.decode_product.proofs.Backwards.{backwards_turn, backwards_end}
use Rattle.decode_product.proofs.Runs.{run_whole}
use Rattle.decode_product.proofs.sums.run.Invariants.{Turn}
use Rattle.decode_product.proofs.sums.run.Goals as goal

module _ (a b : List ℕ) (short : ShortLists a b) (i sum : ℕ) (t : Turn a b i sum) where
  module _ (x y : ℕ) (turn : (i < length a) × (x ≡ get_or a i 0) × (y ≡ get_or b (length a - suc i) 0)) where
    product_small : x * y ≤ 4294967296
    product_small =
        symbols_product x y (rw turn.1 (short.first i turn.0)) (rw turn.2 (short.second (length a - suc i) (omega (arith, short.long, turn.0))))

    sum_small : sum + x * y ≤ 70368744177664
    sum_small = omega (arith, t.small, product_small, turn.0, short.short)

    more : (n : ℕ) → n ≡ i + 1 → Turn a b n (sum + x * y)
    more n next =
        rw next
        (record {
          is = ap₂ ◌+◌ t.is (ap₂ ◌*◌ turn.1 turn.2) ∙ sym (total_more i _);
          small = omega (arith, t.small, product_small);
        })

  ended : i ≡ length a → (sum ≡ run a b 0 (length a)) × (sum ≤ 70368744177664)
  ended all = (t.is ∙ run_whole a b i all, omega (arith, t.small, all, short.short))

pub loop-x-init : goal.loop-x-init
unfolding total
loop-x-init c = record { is = refl; small = omega arith }

pub overflow_add-sum : goal.overflow_add-sum
overflow_add-sum c =
    let turn = backwards_turn c.args.a.now c.args.b.now c.requires.long c.into_iter-x-iterator.result (search rules) (search rules) c.loop-x.yielded c.loop-x.x-iterator c.next.new.self c.loop-x.yielded_by _ c.next.ensures.steps (c.in-Some.x, c.in-Some.y) c.in-Some.is in
    omega (arith, ap₂ ◌*◌ c.from.ensures c.from-in-loop-x.ensures, sum_small _ _ c.requires _ c.loop-x.sum c.loop-x.invariant _ _ turn)

pub loop-x-preserved : goal.loop-x-preserved
loop-x-preserved c =
    let turn = backwards_turn c.args.a.now c.args.b.now c.requires.long c.into_iter-x-iterator.result (search rules) (search rules) c.loop-x.yielded c.loop-x.x-iterator c.next.new.self c.loop-x.yielded_by _ c.next.ensures.steps (c.in-Some.x, c.in-Some.y) c.in-Some.is in
    rw (c.from.ensures, c.from-in-loop-x.ensures)
    (more _ _ c.requires _ c.loop-x.sum c.loop-x.invariant _ _ turn _ (length_push c.loop-x.yielded (c.in-Some.x, c.in-Some.y)))

pub returns : goal.returns
returns c =
    ended _ _ c.requires _ c.loop-x.sum c.loop-x.invariant
    (backwards_end c.args.a.now c.args.b.now c.requires.long c.into_iter-x-iterator.result (search rules) (search rules) c.loop-x.yielded c.loop-x.x-iterator c.next.new.self c.loop-x.yielded_by _ c.next.ensures.steps c.in-None.is)
