-- What the loop of `bundle_read::bytes::lay_message` keeps true.
use mathlib.Core.Path.{◌≡◌}
use Prim.Native.Nat.{◌*◌, ◌≤◌}
use lib.ListN.{length, get_or}
use Rattle.lists.proofs.Window.{window}
use Rattle.bundle_storage.specs.Bytes.{in_bytes}
use Rattle.bundle_read.proofs.bytes.lay_message.Given as goal

abbrev pub invariant-loop-i : goal.invariant-loop-i
invariant-loop-i l =
    (l.i ≤ l.count) × (length l.file ≡ length l.initial.file) × (l.file ≡ window l.from (2 * l.i) (λ j. get_or (in_bytes l.message) j 0) l.initial.file)
