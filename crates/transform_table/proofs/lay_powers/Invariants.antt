-- What the loop of `transform_table::lay_powers` keeps true.
use mathlib.Core.Path.{◌≡◌}
use Rattle.field.specs.Field.{power}
use Rattle.lists.proofs.Window.{window}
use Rattle.transform_table.proofs.lay_powers.Given as goal

abbrev pub invariant-loop-cell : goal.invariant-loop-cell
invariant-loop-cell l = (l.turn ≡ power l.root l.cell-index) × (l.cells ≡ window 0 l.cell-index (power l.root) l.initial.cells)
