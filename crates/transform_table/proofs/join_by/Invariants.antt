-- What the loop of `transform_table::join_by` keeps true.
use lib.ListN.{length}
use Rattle.field.specs.Points.{root_of}
use Rattle.transform_halving.proofs.Joining.{Joining}
use Rattle.transform_table.proofs.join_by.Given as goal

abbrev pub invariant-loop-j : goal.invariant-loop-j
invariant-loop-j l = Joining (root_of (length l.fn.list)) l.initial.front l.initial.back l.front l.back l.j
