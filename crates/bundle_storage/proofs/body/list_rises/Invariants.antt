-- What the loop of `bundle_storage::body::list_rises` keeps true.
use mathlib.Core.Path.{◌≡◌}
use mathlib.Core.Bool.{false}
use Prim.Native.Nat.{ℕ, ◌<◌}
use Rattle.bundle_storage.specs.Rising.{least, out_of_order}
use Rattle.bundle_storage.specs.Storage.{list_at}
use Rattle.bundle_storage.proofs.body.list_rises.Given as goal

abbrev pub invariant-loop-j : goal.invariant-loop-j
invariant-loop-j l =
    (l.low ≡ least (list_at l.list) l.j) × ((k : ℕ) → k < l.j → out_of_order l.limit (list_at l.list) k ≡ false)
