-- A rule at every number below n, proved by one test that antt computes and one law that turns the test into the rule.
-- Assumes nothing.
use mathlib.Core.Path.{◌≡◌, sym, subst}
use mathlib.Core.Bool.{Bool, true, false, ◌&&◌}
use mathlib.Core.Logic.{◌⊎◌, inl, inr}
use Prim.Native.Nat.{ℕ, zero, suc, ◌<◌}
use native.Mathlib.Nat.{eq-or-lt_of_le, le_of_suc-le-suc, not-suc-le-zero}
use lib.Dec.{T}

-- the test passes at each number below n
abbrev pub all : (ℕ → Bool) → ℕ → Bool
all f zero = true
all f (suc n) = f n && all f n

both : (a b : Bool) → T (a && b) → T a × T b
both true b t = (tt, t)
both false b t = absurd t

pub at : (f : ℕ → Bool) (n : ℕ) → T (all f n) → (k : ℕ) → k < n → T (f k)
at f zero t k h = absurd (not-suc-le-zero h)
at f (suc n) t k h = go (both (f n) (all f n) t) (at f n) (eq-or-lt_of_le (le_of_suc-le-suc h))
  where
    go : T (f n) × T (all f n) → (T (all f n) → (k : ℕ) → k < n → T (f k)) → (k ≡ n) ⊎ (k < n) → T (f k)
    go p earlier (inl e) = subst (λ (m : ℕ). T (f m)) (sym e) p.0
    go p earlier (inr l) = earlier p.1 k l
