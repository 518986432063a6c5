-- What the loop of `cells::copy` keeps true.
use mathlib.Core.Path.{◌≡◌}
use mathlib.Core.List.{◌++◌}
use lib.ListN.{take, drop}
use Rattle.cells.proofs.copy.Given as goal

abbrev pub invariant-loop-at : goal.invariant-loop-at
invariant-loop-at g l = l.to ≡ take l.at l.fn.from ++ drop l.at l.initial.to
