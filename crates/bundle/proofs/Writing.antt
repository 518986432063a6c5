-- The writer's checks and what it leaves: what the work asks for where the checks have passed, and the whole working space, of which the stated
-- part is lent to the work.
-- Assumes nothing.
use mathlib.Core.Path.{◌≡◌, refl, sym, ◌∙◌}
use mathlib.Core.Bool.{false}
use mathlib.Core.List.{List, [], ◌∷◌, ◌++◌}
use Prim.Native.Nat.{ℕ, ◌-◌, ◌<◌, ◌≤◌}
use native.Mathlib.Omega.{arith}
use lib.ListN.{length, take, drop, replicate}
use Rattle.limits.specs.Shape.{longest}
use Rattle.answers.specs.Leaves.{leaving, written}
use Rattle.answers.specs.Refusals.{the_result}
use Rattle.answers.proofs.Checks as Checks
use Rattle.answers.proofs.Leaves.{leaves_done, lent_length, zeroed_part}
use Rattle.bundle_storage.specs.Blocks.{most_blocks}
use Rattle.bundle_layout.specs.Blocks.{blocks_of}
use Rattle.bundle_layout.specs.Rooms.{write_out, bundle_work}
use Rattle.bundle_layout.specs.Shape.{longest_file, bad_bundle_shape}
use Rattle.bundle_layout.proofs.Passing.{countable, measurable}
use Rattle.bundle_file.specs.File.{file_bundle}
use Rattle.bundle.specs.Calls.{write_leaves}
use Rattle.bundle.specs.Checks.{write_checks}
use Rattle.bundle.proofs.Passing.{write_passed}

-- once SHAPE has passed, B can be worked out, and it is within its limits
module _ (k n L : ℕ) (good : false ≡ bad_bundle_shape k n L) where
  pub write_countable : (0 < k) × (k ≤ longest) × (L ≤ longest_file)
  write_countable = countable k n L false good refl

  pub write_measurable : (B : ℕ) → B ≡ blocks_of k L → (n ≤ longest) × (B ≤ most_blocks)
  write_measurable B is = measurable k n L false good refl B is

module _ (k n : ℕ) (file out work : List ℕ) (good : the_result [] ≡ write_checks k n (length file) (length out) (length work)) where
  passed : (bad_bundle_shape k n (length file) ≡ false) × (write_out n (blocks_of k (length file)) ≤ length out) × (bundle_work n ≤ length work)
  passed = write_passed k n (length file) (length out) (length work) (sym good)

  pub write_shaped : bad_bundle_shape k n (length file) ≡ false
  write_shaped = passed.0

  pub write_fits : write_out n (blocks_of k (length file)) ≤ length out
  write_fits = passed.1

  pub write_space : (stated : ℕ) → stated ≡ bundle_work n → stated ≤ length work
  write_space stated is = omega (arith, passed.2)

  pub write_lent : (stated : ℕ) → stated ≡ bundle_work n → length (take (stated - 0) work) ≡ bundle_work n
  write_lent stated is = lent_length stated (bundle_work n) work is passed.2

  pub write_left : (stated L : ℕ) (o e : List ℕ) → stated ≡ bundle_work n → L ≡ length (file_bundle k n file) → o ≡ written (file_bundle k n file) out
      → e ≡ replicate (bundle_work n) 0 → leaving (the_result (L ∷ [])) o (e ++ drop (stated - 0) work) ≡ write_leaves k n file out work
  write_left stated L o e is long all zeros =
      cc (long, all, zeroed_part stated (bundle_work n) work is passed.2 e zeros)
      ∙ leaves_done (write_checks k n (length file) (length out) (length work)) out work _ (sym good)

-- what the checks and the call are proved by

pub ruleset in_order = (Checks.in_order, write_countable, write_measurable)

pub ruleset writing = (write_shaped, write_fits, write_space, write_lent, write_left)
