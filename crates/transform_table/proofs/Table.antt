-- Each turn lies in its table, every second turn is a turn of the halves, and the turns serve what is written over the list too.
-- Assumes nothing.
use mathlib.Core.Path.{◌≡◌, sym, ap, subst, ◌∙◌}
use mathlib.Core.List.{List}
use mathlib.Core.Logic.{inl, inr}
use Prim.Native.Nat.{ℕ, ◌+◌, ◌*◌, ◌/◌, ◌<◌, ◌≤◌}
use native.Mathlib.Nat.{eq-zero-or-pos, mul-le-mul_right}
use native.Mathlib.Omega.{arith}
use lib.ListN.{length, get_or, get_or-eq_default}
use Rattle.field.specs.Field.{product}
use Rattle.field.specs.Points.{root_of}
use Rattle.field.proofs.Ring.{power_zero, power_plus, power_product}
use Rattle.transform_halving.specs.Order.{arranged}
use Rattle.transform_halving.specs.Transformable.{Transformable}
use Rattle.transform_halving.proofs.Steps.{arranged_transformable}
use Rattle.transform_table.specs.Turns.{TurnsOf, Tabled}

module _ (root count : ℕ) (table : List ℕ) (step : ℕ) (turns : TurnsOf root count table step) where
  -- the first turn is 1, so that the table is not empty
  some_turn : 0 < count → 0 < length table
  some_turn some =
      elim (eq-zero-or-pos (length table)) [
        | inl none ↦ absurd (omega (arith, turns.is 0 some, power_zero root, get_or-eq_default table 0 {n = 0 * step} (omega arith)))
        | inr above ↦ above
      ]

  pub turn_inside : (j : ℕ) → j < count → j * step < length table
  turn_inside j less =
      elim (eq-zero-or-pos step) [
        | inl none ↦ omega (arith, ap (j *◌) none, some_turn (omega arith))
        | inr above ↦ let next : j + 1 ≤ count = omega arith in omega (arith, turns.inside, mul-le-mul_right step next)
      ]

  pub turns_square : (m : ℕ) → m + m ≤ count → TurnsOf (product root root) m table (2 * step)
  turns_square m few =
      record {
        inside = omega (arith, turns.inside, mul-le-mul_right step few);
        is = λ j h.
            ap (λ (n : ℕ). get_or table n 0) {x = j * (2 * step)} {y = (j + j) * step} (omega arith)
            ∙ turns.is (j + j) (omega arith)
            ∙ power_plus root j j
            ∙ sym (power_product root root j);
      }

-- other numbers in the list's place
pub tabled_kept : (d new table : List ℕ) (step : ℕ) → Tabled d table step → length new ≡ length d → Transformable new → Tabled new table step
tabled_kept d new table step tabled same able =
    record { able = able; turns = subst (λ (n : ℕ). TurnsOf (root_of n) (n / 2) table step) (sym same) tabled.turns }

pub arranged_tabled : (d s table : List ℕ) (step : ℕ) → Tabled d table step → length s ≡ length d → s ≡ arranged d → Tabled s table step
arranged_tabled d s table step tabled same is =
    tabled_kept d s table step tabled same (subst Transformable (sym is) (arranged_transformable d tabled.able))
