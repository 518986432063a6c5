-- `transform_halving::next_place` meets its contract: at the loop's head the digits above are carried, and what is left of the place is a place
-- of a shorter list.
-- Assumes nothing.
use mathlib.Core.Path.{◌≡◌, refl, sym, ap, ◌∙◌}
use mathlib.Core.Logic.{inl, inr}
use Prim.Native.Nat.{ℕ, zero, suc, ◌+◌, ◌-◌, ◌*◌, ◌^◌, ◌/◌, ◌%◌, ◌<◌, ◌≤◌}
use native.Mathlib.Nat.{eq-zero-or-pos}
use native.Mathlib.Omega.{arith}
use borrow.Author.Rules.{rules}
use lib.Pow.{pow_pos}
use Rattle.transform_halving.specs.Order.{reversed}
use Rattle.transform_halving.proofs.Order.{reversed_none, reversed_suc, reversed_lt}
use Rattle.transform_halving.proofs.next_place.Invariants.{Carried}
use Rattle.transform_halving.proofs.next_place.Goals as goal

-- a place by its lowest digit
by-digit : (m q digit half : ℕ) → q % 2 ≡ digit → q / 2 ≡ half → reversed (suc m) q ≡ digit * 2 ^ m + reversed m half
by-digit m q digit half low high =
    reversed_suc m q
    ∙ ap (λ (d : ℕ). d * 2 ^ m + reversed m (q / 2)) low
    ∙ ap (λ (h : ℕ). digit * 2 ^ m + reversed m h) high

-- 2 ^ m reaches to the place exactly where the lowest digit of q is 1

carry-on : (k i left digit : ℕ) → 0 < digit → digit ≤ left → Carried k i left digit → Carried k i (left - digit) (digit / 2)
carry-on k i left digit some over c = at c.m c.q c.highest c.here c.after
  where
    at : (m q : ℕ) → digit ≡ 2 ^ m / 2 → left ≡ reversed m q → reversed k (i + 1) ≡ reversed m (q + 1)
        → Carried k i (left - digit) (digit / 2)
    at zero q highest here after = absurd (omega arith)
    at (suc m) q highest here after =
        elim (eq-zero-or-pos (q % 2)) [
          | inl even ↦ absurd (omega (arith, by-digit m q 0 (q / 2) even refl, reversed_lt m (q / 2)))
          | inr odd ↦
              record {
                m = m;
                q = q / 2;
                highest = ap (◌/ 2) {y = 2 ^ m} (omega arith);
                here = omega (arith, by-digit m q 1 (q / 2) (omega arith) refl);
                after = omega (arith, by-digit m (q + 1) 0 (q / 2 + 1) (omega arith) (omega arith));
              }
        ]

carry-end : (k i left digit : ℕ) → 0 < digit → left < digit → Carried k i left digit → left + digit ≡ reversed k (i + 1)
carry-end k i left digit some under c = at c.m c.q c.highest c.here c.after
  where
    at : (m q : ℕ) → digit ≡ 2 ^ m / 2 → left ≡ reversed m q → reversed k (i + 1) ≡ reversed m (q + 1)
        → left + digit ≡ reversed k (i + 1)
    at zero q highest here after = absurd (omega arith)
    at (suc m) q highest here after =
        elim (eq-zero-or-pos (q % 2)) [
          | inl even ↦
              omega (arith, by-digit m q 0 (q / 2) even refl, by-digit m (q + 1) 1 (q / 2) (omega arith) (omega arith))
          | inr odd ↦ absurd (omega (arith, by-digit m q 1 (q / 2) (omega arith) refl))
        ]

carry-out : (k i left digit : ℕ) → digit ≡ 0 → Carried k i left digit → left ≡ reversed k (i + 1)
carry-out k i left digit none c = at c.m c.q c.highest c.here c.after
  where
    at : (m q : ℕ) → digit ≡ 2 ^ m / 2 → left ≡ reversed m q → reversed k (i + 1) ≡ reversed m (q + 1) → left ≡ reversed k (i + 1)
    at zero q highest here after = here ∙ reversed_none q ∙ sym (after ∙ reversed_none (q + 1))
    at (suc m) q highest here after = absurd (omega (arith, pow_pos m))

pub loop-digit-init : goal.loop-digit-init
loop-digit-init c = (search rules, λ k i size place. record { m = k; q = i; highest = ap (◌/ 2) size; here = place; after = refl })

pub returns-then-left-digit : goal.returns-then-left-digit
returns-then-left-digit c =
    let l = c.loop-digit in
    record { next = λ k i size place. carry-end k i l.left l.digit (search rules) c.if-left-digit.true (l.invariant.1 k i size place) }

pub loop-digit-preserved : goal.loop-digit-preserved
loop-digit-preserved c =
    let l = c.loop-digit in
    (search rules, λ k i size place. carry-on k i l.left l.digit (search rules) c.if-left-digit.false (l.invariant.1 k i size place))

pub returns : goal.returns
returns c =
    let l = c.loop-digit in
    record { next = λ k i size place. carry-out k i l.left l.digit (search rules) (l.invariant.1 k i size place) }
