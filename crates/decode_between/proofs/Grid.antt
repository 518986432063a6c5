-- A plain sum row by row: where there are B rows of K terms, it is the sum of the columns.
-- Assumes nothing.
use mathlib.Core.Path.{◌≡◌, ap, ◌∙◌}
use Prim.Native.Nat.{ℕ, zero, suc, ◌+◌, ◌*◌}
use native.Mathlib.Nat.{zero-mul, suc-mul}
use native.Mathlib.Omega.{arith}
use Rattle.poly.specs.Sum.{total}
use Rattle.poly.proofs.Sum.{total_ext, total_append, total_swap}

rows : (B K : ℕ) (f : ℕ → ℕ) → total (B * K) f ≡ total B (λ b. total K (λ i. f (b * K + i)))
rows zero K f = unfold total in rw zero-mul
rows (suc B) K f =
    ap (λ (m : ℕ). total m f) {x = suc B * K} {y = K + B * K} (suc-mul B K ∙ omega arith)
    ∙ total_append K (B * K) f
    ∙ ap (total K f +◌)
    (rows B K (λ i. f (K + i))
    ∙ total_ext B _ _ (λ b h. total_ext K _ _ (λ i l. ap f {x = K + (b * K + i)} {y = suc b * K + i} (omega (arith, suc-mul b K)))))
    ∙ first
  where
    first : total K f + total B (λ b. total K (λ i. f (suc b * K + i))) ≡ total (suc B) (λ b. total K (λ i. f (b * K + i)))
    first = unfold total in omega (arith, total_ext K f (λ i. f (0 * K + i)) (λ i h. ap f {x = i} {y = 0 * K + i} (omega arith)))

pub columns : (B K : ℕ) (f : ℕ → ℕ) → total (B * K) f ≡ total K (λ i. total B (λ b. f (b * K + i)))
columns B K f = rows B K f ∙ total_swap B K (λ b i. f (b * K + i))
