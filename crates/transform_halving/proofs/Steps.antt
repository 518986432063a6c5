-- The steps of the code, one after the other, are the transform: arranged, halved and, for the inverse, scaled.
-- Assumes nothing.
use mathlib.Core.Path.{◌≡◌, sym, ap, ◌∙◌}
use mathlib.Core.List.{List}
use Prim.Native.Nat.{ℕ, zero, suc, ◌^◌, ◌≤◌}
use native.Mathlib.Omega.{arith}
use lib.ListN.{length, get_or}
use Rattle.field.specs.Field.{product, inverse}
use Rattle.field.specs.Points.{root_of}
use Rattle.field.specs.Roots.{root}
use Rattle.field.specs.Size.{level_of}
use Rattle.field.proofs.Congruence.{≈-sym, ◌+≈◌, ◌·≈◌, comb}
use Rattle.field.proofs.Roots.{root_half}
use Rattle.field.proofs.Sizes.{level_le}
use Rattle.lists.specs.Tab.{tab}
use Rattle.lists.proofs.Tab.{tab_length, tab_at}
use Rattle.transform_halving.specs.InPlace.{halved}
use Rattle.transform_halving.specs.Order.{reversed, arranged}
use Rattle.transform_halving.specs.Transformable.{Transformable}
use Rattle.transform_halving.specs.Transform.{transform_of, inverse_of}
use Rattle.transform_halving.proofs.Order.{reversed_lt, arranged_in_order, halved_is}
use Rattle.transform_halving.proofs.Transformable.{transformable_power}
use Rattle.transform_halving.proofs.Sums.{values, values_length, Halfway, halving_values}
use Rattle.transform_halving.proofs.Undo.{opposite, transform_values, inverse_values}

pub root_halfway : (e : ℕ) → e ≤ 16 → Halfway e (root e)
root_halfway zero h = tt
root_halfway (suc k) h = root_half k h

pub inverse_halfway : (e : ℕ) → e ≤ 16 → Halfway e (inverse (root e))
inverse_halfway zero h = tt
inverse_halfway (suc k) h =
    comb (inverse (root (suc k)) ^ (2 ^ k) ·≈ root_half k h +≈ ≈-sym ((opposite (suc k) h).meet (2 ^ k))) 0 0 (omega arith)

module _ (d : List ℕ) (able : Transformable d) where
  size : length d ≡ 2 ^ level_of (length d)
  size = transformable_power d able

  pub arranged_length : length (arranged d) ≡ length d
  unfolding arranged
  arranged_length = tab_length (length d) _

  pub arranged_transformable : Transformable (arranged d)
  unfolding arranged
  arranged_transformable =
      record {
        size = rw arranged_length able.size;
        symbols =
            λ i h.
            rw (tab_at (length d) _ i (omega (arith, arranged_length)))
            (able.symbols (reversed (level_of (length d)) i) (omega (arith, size, reversed_lt (level_of (length d)) i)));
      }

  -- arranged and halved
  steps_values : (r : ℕ) (s t : List ℕ) → Halfway (level_of (length d)) r → s ≡ arranged d → t ≡ halved (level_of (length s)) r s
      → t ≡ values r (length d) d
  steps_values r s t half one two =
      two
      ∙ ap (λ (l : List ℕ). halved (level_of (length l)) r l) one
      ∙ ap (λ (n : ℕ). halved (level_of n) r (arranged d)) arranged_length
      ∙ ap (halved (level_of (length d)) r) (arranged_in_order (level_of (length d)) (level_le (length d)) d size)
      ∙ halved_is (level_of (length d)) r d size
      ∙ halving_values (level_of (length d)) r d size able.symbols half
      ∙ ap (λ (n : ℕ). values r n d) (sym size)

  pub transform_steps : (r : ℕ) (s t : List ℕ) → r ≡ root_of (length d) → s ≡ arranged d → t ≡ halved (level_of (length s)) r s
      → t ≡ transform_of d
  unfolding root_of
  transform_steps r s t is one two =
      steps_values (root (level_of (length d))) s t (root_halfway (level_of (length d)) (level_le (length d))) one (two ∙ ap (λ (x : ℕ). halved (level_of (length s)) x s) is)
      ∙ sym (transform_values d)

  pub inverse_steps : (q c : ℕ) (s t u : List ℕ) → q ≡ inverse (root_of (length d)) → c ≡ inverse (length d) → s ≡ arranged d
      → t ≡ halved (level_of (length s)) q s → u ≡ tab (length t) (λ j. product c (get_or t j 0)) → u ≡ inverse_of d
  unfolding root_of
  inverse_steps q c s t u is part one two three =
      three
      ∙ ap (λ (x : ℕ). tab (length t) (λ j. product x (get_or t j 0))) part
      ∙ ap (λ (l : List ℕ). tab (length l) (λ j. product (inverse (length d)) (get_or l j 0))) halfway
      ∙ ap (λ (n : ℕ). tab n (λ j. product (inverse (length d)) (get_or (values (inverse (root_of (length d))) (length d) d) j 0))) (values_length _ (length d) d)
      ∙ sym (inverse_values d)
    where
      halfway : t ≡ values (inverse (root_of (length d))) (length d) d
      halfway =
          steps_values (inverse (root (level_of (length d)))) s t (inverse_halfway (level_of (length d)) (level_le (length d))) one (two ∙ ap (λ (x : ℕ). halved (level_of (length s)) x s) is)
