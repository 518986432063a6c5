-- The proofs of specs/Theorems.antt, each under its name there in small letters.
-- Assumes nothing.
use mathlib.Core.Path.{◌≡◌, sym, ap, ◌∙◌}
use mathlib.Core.Bool.{false, ◌||◌}
use Prim.Native.Nat.{ℕ, ◌^◌, ◌≤◌}
use native.Mathlib.Decide.{dec_le}
use native.Mathlib.Omega.{arith}
use borrow.Author.Tests.{ltb-false, le-ltb, eq-eqb, ne_eqb}
use lib.Dec.{ltb, eqb}
use lib.Pow.{pow_pos, pow-lt}
use Rattle.limits.specs.Shape.{longest}
use Rattle.field.specs.Size.{level_of, size_of}
use Rattle.answers.proofs.Checks.{or_false}
use Rattle.answers.proofs.Leaves.{outcome_settled}
use Rattle.field.proofs.Sizes.{size_power, size_of_power}
use Rattle.transform.specs.Lengths.{bad_length}
use Rattle.transform.specs.Theorems.{GoodLengths, TransformSettled, InverseSettled}
use Rattle.transform.proofs.Passing.{good_size}

few_levels : (e : ℕ) → 2 ^ e ≤ longest → e ≤ 16
unfolding longest
few_levels e few = elim (dec_le e 16) [ yes le ↦ le | no gt ↦ absurd (omega (arith, pow-lt {i = 16} {j = e} (omega arith))) ]

pub good_lengths : GoodLengths
unfolding bad_length
good_lengths N = (forth, λ p. back p.1.0 p.0 p.1.1)
  where
    forth : bad_length N ≡ false → (N ≤ longest) × ((e : ℕ) × (N ≡ 2 ^ e))
    forth good = (
      ltb-false longest N (or_false (eqb N 0) (ltb longest N) (or_false (eqb N 0 || ltb longest N) _ good).0).1,
      (level_of N, good_size N good ∙ size_power N),
    )

    back : (e : ℕ) → N ≤ longest → N ≡ 2 ^ e → bad_length N ≡ false
    back e few is =
        simp (
          ne_eqb N 0 (λ none. omega (arith, pow_pos e)),
          le-ltb longest N few,
          eq-eqb (size_of N) N (ap size_of is ∙ size_of_power e (few_levels e (omega (arith, is))) ∙ sym is),
        )

pub transform_settled : TransformSettled
transform_settled list work = outcome_settled _

pub inverse_settled : InverseSettled
inverse_settled list work = outcome_settled _
