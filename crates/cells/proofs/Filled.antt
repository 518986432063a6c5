-- A list filled from the front, with one value or with another list: what a store adds, and that it is filled whole at its end.
-- Assumes nothing.
use mathlib.Core.Path.{◌≡◌, refl, sym, ap, subst, ◌∙◌}
use mathlib.Core.List.{List, [], ◌∷◌, ◌++◌, append-nil}
use Prim.Native.Nat.{ℕ, zero, suc, ◌+◌, ◌<◌, ◌≤◌}
use native.Mathlib.Nat.{not-suc-le-zero, le_of_suc-le-suc}
use native.Mathlib.Numerals.{add-one}
use native.Mathlib.Omega.{arith}
use lib.ListN.{length, get_or, take, drop, set, replicate, drop_of_length-le}
use Rattle.std.proofs.lemmas.List.{take_all}
use Rattle.answers.specs.Leaves.{written}

module _ {T : Type 0} (v : T) where
  stored : (n : ℕ) (d : List T) → n < length d → set (replicate n v ++ drop n d) n v ≡ replicate (suc n) v ++ drop (suc n) d
  stored n [] h = absurd (not-suc-le-zero h)
  stored zero (x ∷ d) h = refl
  stored (suc n) (x ∷ d) h = ap (λ (t : List T). v ∷ t) (stored n d (le_of_suc-le-suc h))

  pub fill_more : (n : ℕ) (d : List T) → n < length d → set (replicate n v ++ drop n d) n v ≡ replicate (n + 1) v ++ drop (n + 1) d
  fill_more n d h =
      subst (λ (m : ℕ). set (replicate n v ++ drop n d) n v ≡ replicate m v ++ drop m d) (sym (add-one n)) (stored n d h)

  -- the same of a store at a place that is n, into what the loop has left
  pub fill_at : (i n : ℕ) (w : T) (s d : List T) → i ≡ n → w ≡ v → s ≡ replicate n v ++ drop n d → n < length d
      → set s i w ≡ replicate (n + 1) v ++ drop (n + 1) d
  fill_at i n w s d at is left h = rw (at, is, left) (fill_more n d h)

  pub filled_whole : (n : ℕ) (d : List T) → n ≤ length d → length d ≤ n → replicate n v ++ drop n d ≡ replicate (length d) v
  filled_whole n d h l =
      rw (drop_of_length-le d l) (append-nil (replicate n v) ∙ ap (λ (m : ℕ). replicate m v) {x = n} {y = length d} (omega arith))

module _ {T : Type 0} where
  taken : (n : ℕ) (from to : List T) (v : T) → n < length from → length from ≤ length to → v ≡ get_or from n v
      → set (take n from ++ drop n to) n v ≡ take (suc n) from ++ drop (suc n) to
  taken n [] to v h l is = absurd (not-suc-le-zero h)
  taken n (x ∷ from) [] v h l is = absurd (not-suc-le-zero l)
  taken zero (x ∷ from) (y ∷ to) v h l is = ap (λ (z : T). z ∷ to) is
  taken (suc n) (x ∷ from) (y ∷ to) v h l is = ap (λ (t : List T). x ∷ t) (taken n from to v (le_of_suc-le-suc h) (le_of_suc-le-suc l) is)

  pub copied_more : (n : ℕ) (from to : List T) (v : T) → n < length from → length from ≤ length to → v ≡ get_or from n v
      → set (take n from ++ drop n to) n v ≡ take (n + 1) from ++ drop (n + 1) to
  copied_more n from to v h l is =
      subst (λ (m : ℕ). set (take n from ++ drop n to) n v ≡ take m from ++ drop m to) (sym (add-one n)) (taken n from to v h l is)

  pub copied_whole : (n : ℕ) (from to : List T) → n ≤ length from → length from ≤ n → take n from ++ drop n to ≡ written from to
  copied_whole n from to h l =
      rw (take_all n from l) (ap (λ (m : ℕ). from ++ drop m to) {x = n} {y = length from} (omega arith))

  pub copied_all : (from to : List T) → length to ≤ length from → written from to ≡ from
  copied_all from to h = rw (drop_of_length-le to h) (append-nil from)
