-- What the loop of `bundle_layout::checks::rest_good` keeps true.
use mathlib.Core.Path.{◌≡◌}
use mathlib.Core.Bool.{false}
use Prim.Native.Nat.{ℕ, ◌≤◌, ◌<◌}
use lib.ListN.{length}
use Rattle.bundle_layout.specs.Fields.{position_in}
use Rattle.bundle_layout.specs.Layout.{start_of, bad_entry}
use Rattle.bundle_storage.specs.Rising.{least}
use Rattle.bundle_layout.proofs.checks.rest_good.Given as goal

abbrev pub invariant-loop-t : goal.invariant-loop-t
invariant-loop-t l =
    (l.t ≤ l.held) × (l.low ≡ least (position_in l.bundle) l.t) × (l.at ≡ start_of l.bundle l.t) × (l.at ≤ length l.bundle)
    × ((k : ℕ) → k < l.t → bad_entry l.bundle k ≡ false)
