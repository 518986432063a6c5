-- What the loop of `cells::clear` keeps true.
use mathlib.Core.Path.{◌≡◌}
use mathlib.Core.List.{◌++◌}
use lib.ListN.{drop, replicate}
use Rattle.cells.proofs.clear.Given as goal

abbrev pub invariant-loop-at : goal.invariant-loop-at
invariant-loop-at g l = l.cells ≡ replicate l.at g.T.Cell.zero ++ drop l.at l.initial.cells
