-- What the loop of `decode_between::fold` keeps true.
use mathlib.Core.Path.{◌≡◌}
use lib.ListN.{length}
use Rattle.lists.proofs.Window.{window}
use Rattle.decode_between.specs.Between.{folded_at}
use Rattle.decode_between.proofs.fold.Given as goal

abbrev pub invariant-loop-i : goal.invariant-loop-i
invariant-loop-i l = l.value-items ≡ window 0 l.i (folded_at (length l.coefficients) l.step l.coefficients) l.initial.value-items
