-- What the loop of `decode_block::multiply_in` keeps true.
use lib.ListN.{length}
use Rattle.decode_block.specs.Multiplied.{Multiplied}
use Rattle.decode_block.proofs.multiply_in.Given as goal

abbrev pub invariant-loop-position : goal.invariant-loop-position
invariant-loop-position l = Multiplied (length l.yielded) l.positions l.values l.initial.list l.list
