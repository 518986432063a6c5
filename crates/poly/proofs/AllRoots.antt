-- The product of X - z over all N roots of X^N - 1 is X^N - 1: both have the coefficient 1 at X^N, and below it root counting settles them.
-- Assumes nothing.
use mathlib.Core.Path.{◌≡◌, sym, ap, ◌∙◌}
use mathlib.Core.List.{List, [], ◌∷◌, ◌++◌}
use Prim.Native.Nat.{ℕ, suc, ◌+◌, ◌-◌, ◌*◌, ◌^◌, ◌<◌, ◌≤◌, suc-le-suc}
use native.Mathlib.Omega.{arith}
use lib.Dec.{lit<}
use lib.ListN.{length, take, replicate, length-replicate}
use lib.Seq.{length-take-le}
use Rattle.field.specs.Congruence.{◌≈◌}
use Rattle.field.specs.Field.{power}
use Rattle.field.specs.Roots.{root, HasOrder}
use Rattle.field.proofs.Congruence.{≈-sym, ◌∘≈◌, ◌+≈◌, pow-≈, comb}
use Rattle.field.proofs.Powers.{full_power}
use Rattle.field.proofs.Ring.{power-≈}
use Rattle.field.proofs.Roots.{root_order, powers_distinct}
use Rattle.poly.specs.Distinct.{Distinct}
use Rattle.lists.specs.Every.{Every}
use Rattle.poly.specs.Products.{vanishing}
use Rattle.lists.specs.Tab.{tab}
use Rattle.poly.specs.Value.{value}
use Rattle.poly.proofs.Counting.{unique}
use Rattle.poly.proofs.Distinct.{distinct_tab}
use Rattle.lists.proofs.Every.{every_map, every_both, every_left, every_tab, every_replicate}
use Rattle.poly.proofs.Products.{vanishing_length, vanishing_symbols, vanishing_roots, vanishing_last}
use Rattle.lists.proofs.Tab.{tab_length, with_last}
use Rattle.poly.proofs.Values.{value_append, value_zeros}

module _ (n : ℕ) (zs : List ℕ) (size : length zs ≡ suc n) where
  -- the coefficients below X^N
  below : List ℕ
  below = take (suc n) (vanishing zs)

  monic : vanishing zs ≡ below ++ (1 ∷ [])
  unfolding below
  monic =
      with_last (vanishing zs) (suc n) (vanishing_length zs ∙ ap suc size)
      ∙ ap (λ (a : ℕ). take (suc n) (vanishing zs) ++ (a ∷ [])) (rw size at (vanishing_last zs))

  below_length : length below ≡ suc n
  unfolding below
  below_length = length-take-le (suc n) (vanishing zs) (omega (arith, vanishing_length zs))

  below_symbols : Every (◌< 65537) below
  below_symbols = every_left (◌< 65537) below (1 ∷ []) (rw monic at (vanishing_symbols zs))

  whole_value : (z : ℕ) → value (vanishing zs) z ≡ value below z + z ^ suc n
  unfolding value
  whole_value z = rw (monic, value_append, below_length) (omega arith)

  below_value : (z : ℕ) → value (vanishing zs) z ≈ 0 → z ^ suc n ≈ 1 → value below z ≈ value (65536 ∷ replicate n 0) z
  unfolding value
  below_value z none one = comb (none +≈ ≈-sym one) 1 0 (omega (arith, whole_value z, ap (z *◌) (value_zeros n z)))

  pub all_roots : Distinct zs → Every (λ z. z ^ suc n ≈ 1) zs → vanishing zs ≡ 65536 ∷ (replicate n 0 ++ (1 ∷ []))
  unfolding Every
  all_roots apart ones =
      monic
      ∙ ap (◌++ (1 ∷ []))
      (unique zs below (65536 ∷ replicate n 0) (below_length ∙ sym size) (ap suc (length-replicate n 0) ∙ sym size) apart
      below_symbols
      (lit< tt, every_replicate (◌< 65537) n 0 (lit< tt))
      (every_map (λ z h. below_value z h.0 h.1) zs (every_both _ _ zs (vanishing_roots zs) ones)))

-- the powers of a number of order N are N such points
module _ (r size : ℕ) (order : HasOrder r size) where
  powers_apart : (i j : ℕ) → i < j → j < size → ¬ (power r j ≈ power r i)
  powers_apart i j less inside same =
      absurd (omega (arith, powers_distinct r size order j i inside (omega arith) (≈-sym (power-≈ r j) ∘≈ same ∘≈ power-≈ r i)))

  power_full : (j : ℕ) → power r j ^ size ≈ 1
  unfolding power
  power_full j = pow-≈ (power-≈ r j) size ∘≈ full_power r size j (record { mods = order.full })

  pub all_powers : vanishing (tab size (power r)) ≡ 65536 ∷ (replicate (size - 1) 0 ++ (1 ∷ []))
  all_powers =
      all_roots (size - 1) (tab size (power r)) (tab_length size (power r) ∙ whole)
      (distinct_tab size (power r) powers_apart)
      (every_tab _ size (power r) (λ j l. rw (sym whole) (power_full j)))
    where
      whole : size ≡ suc (size - 1)
      whole = omega (arith, order.some)

pub roots_of_unity : (i : ℕ) → i ≤ 16 → vanishing (tab (2 ^ i) (λ j. power (root i) j)) ≡ 65536 ∷ (replicate (2 ^ i - 1) 0 ++ (1 ∷ []))
roots_of_unity i h = all_powers (root i) (2 ^ i) (root_order i (suc-le-suc h))
