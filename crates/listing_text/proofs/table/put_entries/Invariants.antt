-- What the loop of `listing_text::table::put_entries` keeps true.
use mathlib.Core.Path.{◌≡◌}
use Prim.Native.Nat.{◌*◌}
use lib.ListN.{length}
use Rattle.listing_lines.specs.Puts.{Puts}
use Rattle.listing_text.specs.Listing.{entry_lines}
use Rattle.listing_text.proofs.table.put_entries.Given as goal

abbrev pub invariant-loop-t : goal.invariant-loop-t
invariant-loop-t l = (length l.out ≡ length l.initial.out) × Puts (entry_lines l.bundle.bytes.now l.t) (63 * l.t) l.at l.initial.out l.end l.out
