-- What the loop of `transform_halving::join` keeps true.
use mathlib.Core.Path.{◌≡◌}
use Rattle.field.specs.Field.{power}
use Rattle.transform_halving.proofs.Joining.{Joining}
use Rattle.transform_halving.proofs.join.Given as goal

abbrev pub invariant-loop-j : goal.invariant-loop-j
invariant-loop-j l = (l.turn ≡ power l.root l.j) × Joining l.root l.initial.front l.initial.back l.front l.back l.j
