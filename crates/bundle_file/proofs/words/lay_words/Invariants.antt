-- What the loop of `bundle_file::words::lay_words` keeps true: the words passed are those of the file.
use mathlib.Core.Path.{◌≡◌}
use Prim.Native.Nat.{ℕ, ◌+◌, ◌*◌, ◌<◌}
use lib.ListN.{get_or}
use Rattle.bundle_storage.specs.Bytes.{two_at}
use Rattle.bundle_file.proofs.words.lay_words.Given as goal

abbrev pub invariant-loop-i : goal.invariant-loop-i
invariant-loop-i l = (j : ℕ) → j < l.i → get_or l.words j 0 ≡ two_at l.file (l.from + 2 * j)
