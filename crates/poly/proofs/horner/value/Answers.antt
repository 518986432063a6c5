-- `poly::horner::value` meets its contract: each turn takes one step of Horner's rule, and the last one ends at index 0.
-- Assumes nothing.
use mathlib.Core.Path.{◌≡◌, ap, ◌∙◌}
use mathlib.Core.List.{List}
use Prim.Native.Nat.{ℕ, suc, ◌+◌, ◌-◌, ◌*◌, ◌%◌, ◌<◌, ◌≤◌}
use native.Mathlib.Nat.{mul-le-mul}
use native.Mathlib.Omega.{arith}
use lib.Dec.{lit<}
use lib.ListN.{length, get_or, drop}
use lib.Seq.{drop-length}
use Rattle.poly.specs.Value.{value}
use Rattle.poly.proofs.Values.{horner_step}
use Rattle.poly.proofs.horner.value.Goals as goal

-- a product of two numbers leaves room for one more in 64 bits
small_product : (a b : ℕ) → a ≤ 4294967295 → b ≤ 4294967295 → a * b ≤ 18446744065119617025
small_product a b la lb = mul-le-mul la lb

begun : (s : List ℕ) (x : ℕ) → 0 ≡ value (drop (length s) s) x % 65537
unfolding value
begun s x = rw drop-length

-- a turn: wide is the sum before it is reduced
turn : (s : List ℕ) (x i result wide : ℕ) → 0 < i → i ≤ length s → result ≡ value (drop i s) x % 65537
    → wide ≡ get_or s (i - 1) 0 + x * result → wide % 65537 ≡ value (drop (i - 1) s) x % 65537
turn s x i result wide some inside held sum =
    rw sum (horner_step s x (i - 1) result (omega arith) (held ∙ ap (λ (n : ℕ). value (drop n s) x % 65537) before))
  where
    before : i ≡ suc (i - 1)
    before = omega arith

finished : (s : List ℕ) (x i result : ℕ) → i ≡ 0 → result ≡ value (drop i s) x % 65537 → result ≡ value s x % 65537
finished s x i result none held = held ∙ ap (λ (n : ℕ). value (drop n s) x % 65537) none

pub loop-i-init : goal.loop-i-init
loop-i-init c = (begun c.args.coefficients.now c.args.x, lit< tt)

pub overflow_mul-wide : goal.overflow_mul-wide
overflow_mul-wide c = omega (arith, small_product c.from-in-loop-i.result c.from-in-loop-i-2.result (omega arith) (omega arith))

pub overflow_add-wide : goal.overflow_add-wide
overflow_add-wide c = omega (arith, small_product c.from-in-loop-i.result c.from-in-loop-i-2.result (omega arith) (omega arith))

pub loop-i-preserved : goal.loop-i-preserved
loop-i-preserved c =
    let l = c.loop-i in
    let sum : c.from.result + c.from-in-loop-i.result * c.from-in-loop-i-2.result ≡ get_or c.args.coefficients.now (l.i - 1) 0 + c.args.x * l.result =
    rw (c.from.ensures, c.from-in-loop-i.ensures, c.from-in-loop-i-2.ensures) (grind arith) in
    (turn _ _ l.i l.result _ (omega arith) l.auto.i l.invariant.0 sum, omega arith)

pub returns : goal.returns
returns c =
    let l = c.loop-i in
    record { is = finished _ _ l.i l.result (omega arith) l.invariant.0; small = l.invariant.1 }
