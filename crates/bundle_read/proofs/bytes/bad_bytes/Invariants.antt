-- What the loop of `bundle_read::bytes::bad_bytes` keeps true.
use mathlib.Core.Path.{◌≡◌}
use Prim.Native.Nat.{ℕ, ◌≤◌, ◌<◌}
use lib.ListN.{get_or}
use Rattle.bundle_storage.specs.Bytes.{in_bytes}
use Rattle.bundle_read.proofs.bytes.bad_bytes.Given as goal

abbrev pub invariant-loop-i : goal.invariant-loop-i
invariant-loop-i l = (l.from ≤ l.i) × ((j : ℕ) → l.from ≤ j → j < l.i → get_or (in_bytes l.message) j 0 ≡ 0)
