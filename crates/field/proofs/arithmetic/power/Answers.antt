-- `field::arithmetic::power` meets its contract: at the loop's head result · base ^ left is x ^ exponent.
-- Assumes nothing.
use mathlib.Core.Path.{◌≡◌, sym, ap, ◌∙◌}
use Prim.Native.Nat.{ℕ, ◌+◌, ◌*◌, ◌^◌, ◌/◌, ◌%◌}
use native.Mathlib.Nat.{pow-zero, mul-one, one-mul}
use native.Mathlib.Omega.{arith}
use lib.Dec.{lit<}
use lib.Pow.{pow-add}
use Rattle.field.specs.Congruence.{◌≈◌}
use Rattle.field.specs.Field.{product, power}
use Rattle.field.proofs.Congruence.{≈-of, ≈-sym, ◌∘≈◌, ◌·≈◌, mul-≈, pow-≈, reduced}
use Rattle.field.proofs.Powers.{pow_two, pow_one}
use Rattle.field.proofs.Ring.{product-≈, power-≈, power_lt}
use Rattle.field.proofs.arithmetic.power.Goals as goal
use Rattle.field.proofs.arithmetic.power.Goals.{then-left-eq1, else-left-eq1}

-- a power by the square's power and what is left over
halved : (x n : ℕ) → x ^ n ≈ x ^ (n % 2) * product x x ^ (n / 2)
halved x n =
    ≈-of (ap (x ^◌) {x = n} {y = n % 2 + 2 * (n / 2)} (omega arith) ∙ pow-add x (n % 2) (2 * (n / 2)))
    ∘≈ (x ^ (n % 2)) ·≈ (≈-of (pow_two x (n / 2)) ∘≈ pow-≈ (≈-sym (product-≈ x x)) (n / 2))

-- a turn: next is result times what is left over, and square the base's square
turn : (x n result base left next square : ℕ) → result * base ^ left ≈ x ^ n → square ≡ product base base
    → next ≈ result * base ^ (left % 2) → next * square ^ (left / 2) ≈ x ^ n
turn x n result base left next square held squared more =
    mul-≈ more (≈-of (ap (◌^ (left / 2)) squared))
    ∘≈ ≈-of {b = result * (base ^ (left % 2) * product base base ^ (left / 2))} (omega arith)
    ∘≈ result ·≈ ≈-sym (halved base left)
    ∘≈ held

one-over : (result base left : ℕ) → left % 2 ≡ 1 → product result base ≈ result * base ^ (left % 2)
one-over result base left odd = product-≈ result base ∘≈ ≈-of (ap (result *◌) (sym (pow_one base) ∙ ap (base ^◌) (sym odd)))

none_over : (result base over : ℕ) → over ≡ 0 → result ≈ result * base ^ over
none_over result base over none = ≈-of (sym (mul-one result) ∙ ap (result *◌) (sym (pow-zero base) ∙ ap (base ^◌) (sym none)))

finished : (x n result base left : ℕ) → left ≡ 0 → result * base ^ left ≈ x ^ n → result ≈ power x n
finished x n result base left none held = none_over result base left none ∘≈ held ∘≈ ≈-sym (power-≈ x n)

pub loop-left-init : goal.loop-left-init
loop-left-init c = (≈-of (one-mul _), lit< tt)

pub loop-left-preserved : goal.loop-left-preserved
loop-left-preserved c =
    let l = c.loop-left in
    elim c.if-left-eq1.branch [
      | then-left-eq1 w ↦ (
        turn _ _ l.result l.base l.left _ _ l.invariant.0 c.product-base.ensures.is
            (≈-of (w.result-is ∙ w.product-result.ensures.is) ∘≈ one-over l.result l.base l.left w.if-left-eq1.true),
        omega (arith, w.result-is, w.product-result.ensures.small),
      )
      | else-left-eq1 w ↦ (
        turn _ _ l.result l.base l.left _ _ l.invariant.0 c.product-base.ensures.is
            (≈-of w.result-is ∘≈ none_over l.result l.base (l.left % 2) (omega (arith, w.if-left-eq1.false))),
        omega (arith, w.result-is),
      )
    ]

pub returns : goal.returns
returns c =
    let l = c.loop-left in
    record {
      is = reduced (finished _ _ l.result l.base l.left (omega arith) l.invariant.0) l.invariant.1 (power_lt _ _);
      small = l.invariant.1;
    }
