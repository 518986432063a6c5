-- What the loop of `decode_divide::divide_values` keeps true.
use mathlib.Core.Path.{◌≡◌}
use lib.ListN.{get_or}
use Rattle.field.specs.Field.{product}
use Rattle.lists.proofs.Window.{window}
use Rattle.decode_divide.proofs.divide_values.Given as goal

abbrev pub invariant-loop-i : goal.invariant-loop-i
invariant-loop-i l =
    l.value-items ≡ window 0 l.i (λ j. product (get_or l.initial.value-items j 0) (get_or l.inverses j 0)) l.initial.value-items
