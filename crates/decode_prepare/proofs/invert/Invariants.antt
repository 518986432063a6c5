-- What the loop of `decode_prepare::invert` keeps true.
use mathlib.Core.Path.{◌≡◌}
use lib.ListN.{get_or}
use Rattle.field.specs.Field.{product, inverse}
use Rattle.lists.proofs.Window.{window}
use Rattle.decode_prepare.proofs.invert.Given as goal

abbrev pub invariant-loop-i : goal.invariant-loop-i
invariant-loop-i l = l.inverses ≡ window 0 l.i (λ j. inverse (product l.factor (get_or l.values j 0))) l.initial.inverses
