-- What the loop of `decode_divide::untwist` keeps true.
use mathlib.Core.Path.{◌≡◌}
use lib.ListN.{length}
use Rattle.lists.proofs.Window.{window}
use Rattle.decode_divide.specs.Quotients.{untwisted}
use Rattle.decode_divide.proofs.untwist.Given as goal

abbrev pub invariant-loop-i : goal.invariant-loop-i
invariant-loop-i l = l.coefficient-items ≡ window 0 l.i (untwisted (length l.powers) l.twisted) l.initial.coefficient-items
