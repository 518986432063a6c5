-- What the loop of `transform_halving::scale` keeps true.
use mathlib.Core.Path.{◌≡◌}
use lib.ListN.{get_or}
use Rattle.field.specs.Field.{product}
use Rattle.lists.proofs.Window.{window}
use Rattle.transform_halving.proofs.scale.Given as goal

abbrev pub invariant-loop-number : goal.invariant-loop-number
invariant-loop-number l = l.list ≡ window 0 l.number-index (λ j. product l.factor (get_or l.initial.list j 0)) l.initial.list
