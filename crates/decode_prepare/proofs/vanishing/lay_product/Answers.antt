-- `decode_prepare::vanishing::lay_product` meets its contract, step by step.
-- Assumes nothing.
use mathlib.Core.Path.{◌≡◌, ◌∙◌}
use mathlib.Core.List.{List}
use Prim.Native.Nat.{ℕ, ◌-◌, ◌*◌, ◌<◌}
use native.Mathlib.Omega.{arith}
use lib.ListN.{length}
use Rattle.lists.specs.Part.{part}
use Rattle.lists.proofs.Part.{part_length}
use Rattle.decode_prepare.proofs.Multiplying.{product_laid, rest_laid}
use Rattle.decode_prepare.proofs.vanishing.lay_product.Goals as goal

counted : (N u : ℕ) (d : List ℕ) → length d ≡ 4 * N → u < N → length (part (N - u) u d) ≡ u
counted N u d long few = part_length (N - u) u d (omega arith)

pub returns : goal.returns
returns c = let long = c.multiply_points.auto.cells ∙ c.requires.sizes.0 in record { coefficients = product_laid _ _ _ _ (counted c.args.size c.args.missing c.args.cells.now c.requires.sizes.0 c.requires.sizes.4) c.requires.sizes.4 long c.multiply_points.ensures.coefficients _ c.copy_within.ensures.after _ c.clear.ensures; rest = rest_laid _ _ _ _ (counted c.args.size c.args.missing c.args.cells.now c.requires.sizes.0 c.requires.sizes.4) c.requires.sizes.4 long c.multiply_points.ensures.coefficients _ c.copy_within.ensures.after _ c.clear.ensures ∙ c.multiply_points.ensures.rest }
