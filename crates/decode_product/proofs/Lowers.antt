-- The coefficients of a product over points below the highest: how many, that they are symbols, their value, and that the product over two
-- lists is the product of theirs.
-- Assumes nothing.
use mathlib.Core.Path.{◌≡◌, sym, ap, ◌∙◌}
use mathlib.Core.List.{List, [], ◌∷◌, ◌++◌}
use Prim.Native.Nat.{ℕ, ◌+◌, ◌*◌, ◌^◌, ◌<◌, ◌≤◌}
use native.Mathlib.Omega.{arith}
use lib.ListN.{length, take, length-append}
use lib.Seq.{length-take-le}
use Rattle.field.proofs.Congruence.{≈-of, ◌∘≈◌, reduced}
use Rattle.poly.specs.Distinct.{Distinct}
use Rattle.lists.specs.Every.{Every}
use Rattle.poly.specs.Products.{vanishing}
use Rattle.lists.specs.Tab.{tab}
use Rattle.poly.specs.Value.{value}
use Rattle.poly.proofs.Distinct.{distinct_tab}
use Rattle.lists.proofs.Every.{every_left, every_tab}
use Rattle.poly.proofs.Products.{vanishing_append, vanishing_length, vanishing_symbols, vanishing_last, product_value}
use Rattle.lists.proofs.Tab.{tab_length, with_last}
use Rattle.poly.proofs.Values.{value_append}
use Rattle.decode_product.specs.Factors.{lowers_of, monic_times}
use Rattle.decode_product.proofs.Times.{times_determined}

pub lowers_length : (zs : List ℕ) → length (lowers_of zs) ≡ length zs
unfolding lowers_of
lowers_length zs = length-take-le (length zs) (vanishing zs) (omega (arith, vanishing_length zs))

-- the highest coefficient stands behind them
pub lowers_whole : (zs : List ℕ) → vanishing zs ≡ lowers_of zs ++ (1 ∷ [])
unfolding lowers_of
lowers_whole zs =
    with_last (vanishing zs) (length zs) (vanishing_length zs)
    ∙ ap (λ (a : ℕ). take (length zs) (vanishing zs) ++ (a ∷ [])) (vanishing_last zs)

pub lowers_symbols : (zs : List ℕ) → Every (◌< 65537) (lowers_of zs)
lowers_symbols zs = every_left (◌< 65537) (lowers_of zs) (1 ∷ []) (rw lowers_whole at (vanishing_symbols zs))

pub lowers_value : (zs : List ℕ) (x : ℕ) → value (vanishing zs) x ≡ value (lowers_of zs) x + x ^ length zs
unfolding value
lowers_value zs x =
    ap (λ (s : List ℕ). value s x) (lowers_whole zs)
    ∙ value_append (lowers_of zs) (1 ∷ []) x
    ∙ rw lowers_length (omega arith)

-- 0, 1, 2 and so on, as many as there are symbols
apart : (n : ℕ) → n ≤ 65537 → Distinct (tab n (λ i. i))
apart n h = distinct_tab n (λ i. i) (λ i j l m same. omega (arith, reduced same (omega arith) (omega arith)))

pub lowers_append : (zs ws : List ℕ) → length zs + length ws ≤ 65537 → lowers_of (zs ++ ws) ≡ monic_times (lowers_of zs) (lowers_of ws)
lowers_append zs ws few =
    times_determined (lowers_of zs) (lowers_of ws) (lowers_of (zs ++ ws)) (tab n (λ i. i))
    (lowers_length (zs ++ ws) ∙ length-append zs ws ∙ sym (omega (arith, lowers_length zs, lowers_length ws)))
    (tab_length n _)
    (apart n (omega (arith, lowers_length (zs ++ ws), length-append zs ws)))
    (lowers_symbols (zs ++ ws))
    (every_tab _ n _ (λ x h. rw (lowers_length (zs ++ ws), lowers_length zs, lowers_length ws, ← lowers_value, ← lowers_value, ← lowers_value)
    (≈-of (ap (λ (s : List ℕ). value s x) (vanishing_append zs ws))
    ∘≈ product_value (vanishing ws) zs x
    ∘≈ ≈-of {b = value (vanishing zs) x * value (vanishing ws) x} (omega arith))))
  where
    n : ℕ
    n = length (lowers_of (zs ++ ws))
