-- Halving by a table: the halves of a list are tabled with every second turn, and what two calls and a join leave is the list halved.
-- Assumes nothing.
use mathlib.Core.Path.{◌≡◌, sym, ap, subst, ◌∙◌}
use mathlib.Core.List.{List, ◌++◌}
use Prim.Native.Nat.{ℕ, ◌*◌, ◌^◌, ◌/◌, ◌%◌, ◌≤◌}
use native.Mathlib.Nat.{mul-le-mul_right}
use native.Mathlib.Omega.{arith}
use lib.ListN.{length, take, drop}
use Rattle.field.specs.Field.{product}
use Rattle.field.specs.Points.{root_of}
use Rattle.field.specs.Roots.{root}
use Rattle.field.specs.Size.{level_of}
use Rattle.field.proofs.Roots.{root_square}
use Rattle.field.proofs.Sizes.{level_le, level_power}
use Rattle.transform_halving.specs.InPlace.{joined_halves, halved}
use Rattle.transform_halving.specs.Transformable.{Transformable}
use Rattle.transform_halving.proofs.Halves.{Pair, pair_of, front_length, back_length, front_transformable, back_transformable, both_length, both_even, both_transformable, both_joined}
use Rattle.transform_table.specs.Turns.{TurnsOf, Tabled}
use Rattle.transform_table.proofs.Table.{turns_square}

module _ (d table : List ℕ) (step : ℕ) (tabled : Tabled d table step) (many : 2 ≤ length d) where
  abbrev p : Pair d
  p = pair_of d tabled.able many

  pub step_inside : step ≤ length table
  step_inside = let one : 1 ≤ length d / 2 = omega arith in omega (arith, tabled.turns.inside, mul-le-mul_right step one)

  -- a half, s, whose turns are every second one
  square : (s : List ℕ) → length s ≡ 2 ^ p.k → root_of (length s) ≡ product (root_of (length d)) (root_of (length d))
  unfolding root_of
  square s long =
      ap root (ap level_of long ∙ level_power p.k p.few)
      ∙ sym (root_square p.k (omega (arith, p.level, level_le (length d))))
      ∙ ap (λ (l : ℕ). product (root l) (root l)) (sym p.level)

  half_tabled : (s : List ℕ) → length s ≡ 2 ^ p.k → Transformable s → (u : List ℕ) (w : ℕ) → (u ≡ table) × (w ≡ 2 * step) → Tabled s u w
  half_tabled s long able u w is =
      rw (is.0, is.1)
      (record {
        able = able;
        turns =
            rw (square s long)
            (turns_square (root_of (length d)) (length d / 2) table step tabled.turns (length s / 2) (omega (arith, long, p.whole)));
      })

  module _ (f b : List ℕ) (front : f ≡ take (length d / 2) d) (back : b ≡ drop (length d / 2) d) where
    f_long : length f ≡ 2 ^ p.k
    f_long = front_length d tabled.able many f b front back

    b_long : length b ≡ 2 ^ p.k
    b_long = back_length d tabled.able many f b front back

    pub front_tabled : (u : List ℕ) (w : ℕ) → (u ≡ table) × (w ≡ 2 * step) → Tabled f u w
    front_tabled = half_tabled f f_long (front_transformable d tabled.able many f b front back)

    pub back_tabled : (u : List ℕ) (w : ℕ) → (u ≡ table) × (w ≡ 2 * step) → Tabled b u w
    back_tabled = half_tabled b b_long (back_transformable d tabled.able many f b front back)

    -- e is what the first half becomes, o the second
    module _ (e o : List ℕ) (one : e ≡ halved (level_of (length f)) (root_of (length f)) f) (two : o ≡ halved (level_of (length b)) (root_of (length b)) b) where
      long : length (e ++ o) ≡ length d
      long = both_length d tabled.able many f b front back (root_of (length d)) _ _ (square f f_long) (square b b_long) e o one two

      pub both_tabled : Tabled (e ++ o) table step × (length (e ++ o) % 2 ≡ 0)
      both_tabled = (
        record {
          able = both_transformable d tabled.able many f b front back (root_of (length d)) _ _ (square f f_long) (square b b_long) e o one two;
          turns = subst (λ (n : ℕ). TurnsOf (root_of n) (n / 2) table step) (sym long) tabled.turns;
        },
        both_even d tabled.able many f b front back (root_of (length d)) _ _ (square f f_long) (square b b_long) e o one two,
      )

      pub all_halved : joined_halves (root_of (length (e ++ o))) (e ++ o) ≡ halved (level_of (length d)) (root_of (length d)) d
      all_halved =
          ap (λ (n : ℕ). joined_halves (root_of n) (e ++ o)) long
          ∙ both_joined d tabled.able many f b front back (root_of (length d)) _ _ (square f f_long) (square b b_long) e o one two
