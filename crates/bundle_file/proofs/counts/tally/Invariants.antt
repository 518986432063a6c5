-- What the loop of `bundle_file::counts::tally` keeps true: the counts passed have their symbols counted, the others are as they were.
use mathlib.Core.Path.{◌≡◌}
use Prim.Native.Nat.{ℕ, ◌<◌, ◌≤◌}
use lib.ListN.{get_or}
use Rattle.bundle_file.specs.Counts.{tallied}
use Rattle.bundle_file.proofs.counts.tally.Given as goal

abbrev pub invariant-loop-i : goal.invariant-loop-i
invariant-loop-i l =
    ((j : ℕ) → j < l.i → get_or l.count-items j 0 ≡ tallied (get_or l.initial.count-items j 0) (get_or l.symbols j 0))
    × ((j : ℕ) → l.i ≤ j → get_or l.count-items j 0 ≡ get_or l.initial.count-items j 0)
