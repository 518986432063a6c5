-- The rule of the table, each root is the square of the next, by one computed test; from it the roots' orders and distinct powers.
-- Assumes nothing.
use mathlib.Core.Path.{◌≡◌, refl, sym, ap, ◌∙◌, subst}
use mathlib.Core.Bool.{Bool}
use mathlib.Core.Logic.{inl, inr}
use Prim.Native.Nat.{ℕ, zero, suc, ◌+◌, ◌-◌, ◌*◌, ◌^◌, ◌/◌, ◌%◌, ◌<◌, ◌≤◌}
use native.Mathlib.Decide.{dec_le}
use native.Mathlib.Nat.{zero-add, zero-mul, suc-mul, mul_comm, mod-eq_of_lt, pow-suc, pow-succ', eq-zero-or-pos}
use native.Mathlib.Omega.{arith}
use lib.Dec.{eqb, eqb→eq, ltb, ltb→lt}
use lib.Pow.{pow-add, pow_pos}
use Rattle.field.specs.Congruence.{◌≈◌}
use Rattle.field.specs.Field.{product, power}
use Rattle.field.specs.Roots.{roots, root, HasOrder}
use Rattle.field.proofs.Congruence.{≈-refl, ≈-of, ≈-sym, ◌∘≈◌, ◌+≈◌, ◌·≈◌, mul-≈, pow-≈, mod-≈, comb, wrap}
use Rattle.field.proofs.Powers.{one_pow, pow_one, pow_two, pow_times, minus_one}
use Rattle.field.proofs.Table.{at}

square_of_next : ℕ → Bool
unfolding root roots product
square_of_next i = eqb (product (root (suc i)) (root (suc i))) (root i)

pub root_square : (i : ℕ) → i < 16 → product (root (suc i)) (root (suc i)) ≡ root i
unfolding square_of_next
root_square i h = eqb→eq (product (root (suc i)) (root (suc i))) (root i) (at square_of_next 16 tt i h)

is_symbol : ℕ → Bool
unfolding root roots
is_symbol i = ltb (root i) 65537

pub root_lt : (i : ℕ) → i < 17 → root i < 65537
unfolding is_symbol
root_lt i h = ltb→lt (root i) 65537 (at is_symbol 17 tt i h)

-- the next root's even powers are this root's powers
root_down : (i : ℕ) → i < 16 → (n : ℕ) → root (suc i) ^ (2 * n) ≈ root i ^ n
unfolding product
root_down i h n =
    ≈-of (pow_two (root (suc i)) n)
    ∘≈ pow-≈ (≈-sym (mod-≈ (root (suc i) * root (suc i))) ∘≈ ≈-of (root_square i h)) n

-- the last root is 3, and each step down the table is one squaring
three_power : (d i : ℕ) → d + i ≡ 16 → 3 ^ (2 ^ d) ≈ root i
unfolding root roots
three_power zero i e = ≈-of (sym (ap root (sym (zero-add i) ∙ e)))
three_power (suc d) i e =
    ≈-of (ap (3 ^◌) (pow-suc 2 d) ∙ pow_times 3 (2 ^ d) 2)
    ∘≈ pow-≈ (three_power d (suc i) (omega arith)) 2
    ∘≈ root_down i (omega arith) 1
    ∘≈ ≈-of (pow_one (root i))

pub root_is : (i : ℕ) → i < 17 → root i ≡ power 3 (2 ^ (16 - i))
unfolding power
root_is i h = sym (mod-eq_of_lt (root_lt i h)) ∙ sym (three_power (16 - i) i (omega arith)).mods

-- half way round stands minus one
pub root_half : (i : ℕ) → i < 16 → root (suc i) ^ (2 ^ i) + 1 ≈ 0
root_half zero h = unfold root roots in wrap 0 1 refl
root_half (suc i) h =
    ≈-of (ap (root (suc (suc i)) ^◌) (pow-succ' 2 i)) +≈ ≈-refl
    ∘≈ root_down (suc i) h (2 ^ i) +≈ ≈-refl
    ∘≈ root_half i (omega arith)

pub root_full : (i : ℕ) → i < 17 → root i ^ (2 ^ i) ≈ 1
root_full zero h = unfold root roots in ≈-refl
root_full (suc i) h =
    ≈-of (ap (root (suc i) ^◌) (pow-succ' 2 i))
    ∘≈ root_down i (omega arith) (2 ^ i)
    ∘≈ root_full i (omega arith)

-- an odd power of the next root is not 1: half way round it is minus one
odd_power : (i : ℕ) → i < 16 → (m : ℕ) → ¬ (root (suc i) ^ (2 * m + 1) ≈ 1)
odd_power i h m e = absurd (omega (arith, two.mods))
  where
    r : ℕ
    r = root (suc i)

    x : ℕ
    x = r ^ (2 ^ i)

    one : x ^ (2 * m + 1) ≈ 1
    one =
        ≈-of (sym (pow_times r (2 ^ i) (2 * m + 1)) ∙ ap (r ^◌) (mul_comm (2 ^ i) (2 * m + 1)) ∙ pow_times r (2 * m + 1) (2 ^ i))
        ∘≈ pow-≈ e (2 ^ i)
        ∘≈ ≈-of (one_pow (2 ^ i))

    split : x ^ (2 * m + 1) ≈ 1 * x
    split = ≈-of (pow-add x (2 * m) 1 ∙ ap (x ^ (2 * m) *◌) (pow_one x)) ∘≈ mul-≈ (minus_one x m (root_half i h)) ≈-refl

    two : 2 ≈ 0
    two = comb (≈-sym one +≈ split +≈ root_half i h) 0 0 (omega arith)

-- what gives 1 is a multiple of the order
pub root_multiple : (i : ℕ) → i < 17 → (d : ℕ) → root i ^ d ≈ 1 → (k : ℕ) × (d ≡ k * 2 ^ i)
root_multiple zero h d e = (d, omega arith)
root_multiple (suc i) h d e =
    elim (eq-zero-or-pos (d % 2)) [
      | inl even ↦ twice even (root_multiple i (omega arith) (d / 2) (halved even))
      | inr odd ↦ absurd (odd_power i (omega arith) (d / 2) (subst (λ (n : ℕ). root (suc i) ^ n ≈ 1) (omega arith) e))
    ]
  where
    halved : d % 2 ≡ 0 → root i ^ (d / 2) ≈ 1
    halved even =
        ≈-sym (root_down i (omega arith) (d / 2)) ∘≈ ≈-of (ap (root (suc i) ^◌) (omega arith)) ∘≈ e

    twice : d % 2 ≡ 0 → (k : ℕ) × (d / 2 ≡ k * 2 ^ i) → (k : ℕ) × (d ≡ k * 2 ^ suc i)
    twice even p = (p.0, omega (arith, p.1, ap (p.0 *◌) (pow-succ' 2 i)))

pub root_order : (i : ℕ) → i < 17 → HasOrder (root i) (2 ^ i)
unfolding power
root_order i h = record { some = pow_pos i; full = (root_full i h).mods; least = λ d some less e. none d some less (root_multiple i h d (record { mods = e })) }
  where
    none : (d : ℕ) → 0 < d → d < 2 ^ i → ¬ ((k : ℕ) × (d ≡ k * 2 ^ i))
    none d some less (zero, e) = omega (arith, zero-mul (2 ^ i))
    none d some less (suc k, e) = omega (arith, suc-mul k (2 ^ i))

-- Where r has order n, its powers below n are distinct

again : (r n : ℕ) → HasOrder r n → (a k : ℕ) → a + k < n → r ^ (a + k) ≈ r ^ a → r ^ k ≈ 1
unfolding power
again r n order a k l e =
    comb (≈-sym (r ^ k ·≈ full) +≈ r ^ (n - a) ·≈ e +≈ full) 0 0
    (omega (arith, whole, ap (r ^ k *◌) whole, ap (r ^ (n - a) *◌) (pow-add r a k)))
  where
    full : r ^ n ≈ 1
    full = record { mods = order.full }

    whole : r ^ n ≡ r ^ (n - a) * r ^ a
    whole = ap (r ^◌) (omega arith) ∙ pow-add r (n - a) a

ordered : (r n : ℕ) → HasOrder r n → (a b : ℕ) → a ≤ b → b < n → r ^ b ≈ r ^ a → a ≡ b
unfolding power
ordered r n order a b le lb e =
    elim (eq-zero-or-pos (b - a)) [
      | inl none ↦ omega arith
      | inr some ↦ absurd (order.least (b - a) some (omega arith) (again r n order a (b - a) (omega arith) (≈-of (ap (r ^◌) (omega arith)) ∘≈ e)).mods)
    ]

pub powers_distinct : (r n : ℕ) → HasOrder r n → (a b : ℕ) → a < n → b < n → r ^ a ≈ r ^ b → a ≡ b
powers_distinct r n order a b la lb e =
    elim (dec_le a b) [
      | yes le ↦ ordered r n order a b le lb (≈-sym e)
      | no gt ↦ sym (ordered r n order b a (omega arith) la e)
    ]
