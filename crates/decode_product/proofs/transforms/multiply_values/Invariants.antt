-- What the loop of `decode_product::transforms::multiply_values` keeps true.
use mathlib.Core.Path.{◌≡◌}
use lib.ListN.{get_or}
use Rattle.field.specs.Field.{product}
use Rattle.lists.proofs.Window.{window}
use Rattle.decode_product.proofs.transforms.multiply_values.Given as goal

abbrev pub invariant-loop-i : goal.invariant-loop-i
invariant-loop-i l = l.list ≡ window 0 l.i (λ j. product (get_or l.initial.list j 0) (get_or l.factors j 0)) l.initial.list
