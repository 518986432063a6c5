-- The laws of equality modulo 65537. `comb` proves nearly every congruence: a linear combination of known ones, checked over ℕ.
-- Assumes nothing.
use mathlib.Core.Path.{◌≡◌, refl, sym, ap, ◌∙◌}
use Prim.Native.Nat.{ℕ, zero, suc, ◌+◌, ◌*◌, ◌^◌, ◌/◌, ◌%◌, ◌<◌}
use native.Mathlib.Nat.{mod-eq_of_lt, mod-mod, pow-suc, pow-zero}
use native.Mathlib.Omega.{arith}
use Rattle.field.specs.Congruence.{◌≈◌}

pub wrap : {a b : ℕ} (j k : ℕ) → a + 65537 * j ≡ b + 65537 * k → a ≈ b
wrap {a} {b} j k e = record { mods = omega arith }

pub comb : {a b u v : ℕ} → u ≈ v → (j k : ℕ) → a + v + 65537 * j ≡ b + u + 65537 * k → a ≈ b
comb {a} {b} {u} {v} h j k e = wrap (v / 65537 + j) (u / 65537 + k) (omega (arith, h.mods))

pub ≈-refl : {a : ℕ} → a ≈ a
≈-refl = record { mods = refl }

pub ≈-of : {a b : ℕ} → a ≡ b → a ≈ b
≈-of e = record { mods = ap (◌% 65537) e }

pub ≈-sym : {a b : ℕ} → a ≈ b → b ≈ a
≈-sym h = record { mods = sym h.mods }

infixr 45 ◌∘≈◌
pub ◌∘≈◌ : {a b c : ℕ} → a ≈ b → b ≈ c → a ≈ c
g ∘≈ h = record { mods = g.mods ∙ h.mods }

infixl 65 ◌+≈◌
pub ◌+≈◌ : {a b c d : ℕ} → a ≈ b → c ≈ d → a + c ≈ b + d
◌+≈◌ {a} {b} {c} {d} g h = comb g (d / 65537) (c / 65537) (omega (arith, h.mods))

infixr 70 ◌·≈◌
pub ◌·≈◌ : {a b : ℕ} (c : ℕ) → a ≈ b → c * a ≈ c * b
◌·≈◌ {a} {b} c h =
    let even : a + 65537 * (b / 65537) ≡ b + 65537 * (a / 65537) = omega (arith, h.mods) in
    wrap (c * (b / 65537)) (c * (a / 65537)) (omega (arith, ap (λ (z : ℕ). c * z) even))

pub mul-≈ : {a b c d : ℕ} → a ≈ b → c ≈ d → a * c ≈ b * d
mul-≈ {a} {b} {c} {d} g h = a ·≈ h ∘≈ ≈-of (omega arith) ∘≈ d ·≈ g ∘≈ ≈-of (omega arith)

pub pow-≈ : {a b : ℕ} → a ≈ b → (n : ℕ) → a ^ n ≈ b ^ n
pow-≈ {a} {b} h zero = rw (pow-zero a, pow-zero b) ≈-refl
pow-≈ {a} {b} h (suc n) = rw (pow-suc a n, pow-suc b n) (mul-≈ (pow-≈ h n) h)

-- a number is congruent to its remainder
pub mod-≈ : (a : ℕ) → a % 65537 ≈ a
mod-≈ a = record { mods = mod-mod a 65537 }

pub reduced : {a b : ℕ} → a ≈ b → a < 65537 → b < 65537 → a ≡ b
reduced h l m = sym (mod-eq_of_lt l) ∙ h.mods ∙ mod-eq_of_lt m
