-- N is at least n, no smaller power of two is, and the exponent of a power of two is its own: what callers use of N instead of its definition.
-- Assumes nothing.
use mathlib.Core.Path.{◌≡◌, refl, sym, ap, ◌∙◌}
use mathlib.Core.Logic.{inl, inr}
use Prim.Native.Nat.{ℕ, ◌^◌, ◌≤◌}
use native.Mathlib.Decide.{dec_le}
use native.Mathlib.Nat.{eq-or-lt_of_le, le_antisymm, le_trans, not-le_of_lt, lt_of_not-le, le_of_eq}
use borrow.Author.Tests.{leb-true, leb-false}
use lib.Dec.{leb}
use lib.Pow.{pow_mono, pow-lt}
use Rattle.field.specs.Size.{level_of, size_of}
use Rattle.answers.proofs.First.{first_le, first_holds, first_before}

pub level_le : (n : ℕ) → level_of n ≤ 16
unfolding level_of
level_le n = first_le 16 (λ e. leb n (2 ^ e))

pub size_power : (n : ℕ) → size_of n ≡ 2 ^ level_of n
unfolding size_of
size_power n = refl

pub size_enough : (n : ℕ) → n ≤ 65536 → n ≤ size_of n
unfolding size_of level_of
size_enough n h =
    elim (eq-or-lt_of_le (level_le n)) [
      | inl last ↦ le_trans h (le_of_eq (sym (ap (2 ^◌) last)))
      | inr earlier ↦ leb-true n _ (first_holds 16 (λ e. leb n (2 ^ e)) earlier)
    ]

pub level_least : (n e : ℕ) → n ≤ 2 ^ e → level_of n ≤ e
unfolding level_of
level_least n e h =
    elim (dec_le (level_of n) e) [
      | yes le ↦ le
      | no gt ↦ absurd (not-le_of_lt (leb-false n (2 ^ e) (first_before 16 (λ k. leb n (2 ^ k)) e (lt_of_not-le gt))) h)
    ]

pub size_least : (n e : ℕ) → n ≤ 2 ^ e → size_of n ≤ 2 ^ e
unfolding size_of
size_least n e h = pow_mono (level_least n e h)

pub level_power : (e : ℕ) → e ≤ 16 → level_of (2 ^ e) ≡ e
unfolding size_of
level_power e h = le_antisymm (level_least (2 ^ e) e (le_of_eq refl)) up
  where
    up : e ≤ level_of (2 ^ e)
    up =
        elim (dec_le e (level_of (2 ^ e)))
        [ yes le ↦ le | no gt ↦ absurd (not-le_of_lt (pow-lt (lt_of_not-le gt)) (size_enough (2 ^ e) (pow_mono h))) ]

pub level_size : (n : ℕ) → level_of (size_of n) ≡ level_of n
unfolding size_of
level_size n = level_power (level_of n) (level_le n)

-- a power of two is its own N
pub size_of_power : (e : ℕ) → e ≤ 16 → size_of (2 ^ e) ≡ 2 ^ e
size_of_power e h = size_power (2 ^ e) ∙ ap (2 ^◌) (level_power e h)

-- as a call gives it
pub size_small : (S n : ℕ) → S ≡ size_of n → S ≤ 65536
unfolding size_of
size_small S n is = le_trans (le_of_eq is) (pow_mono (level_le n))

-- N is its own N
pub size_size : (n : ℕ) → size_of n ≡ size_of (size_of n)
size_size n = size_power n ∙ sym (ap size_of (size_power n) ∙ size_of_power (level_of n) (level_le n))
