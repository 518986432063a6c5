-- The lines of the entries, put one behind the other.
-- Assumes nothing.
use mathlib.Core.Path.{◌≡◌, ap}
use mathlib.Core.List.{List, ◌++◌}
use Prim.Native.Nat.{ℕ, ◌+◌, ◌*◌, ◌≤◌}
use native.Mathlib.Numerals.{add-one}
use native.Mathlib.Omega.{arith}
use lib.ListN.{length}
use Rattle.bundle_layout.specs.Fields.{k_in, n_in, length_in, held_in, blocks_in, position_in, count_in, offset_in}
use Rattle.listing_lines.specs.Lines.{header_line, entry_line}
use Rattle.listing_lines.specs.Puts.{Puts}
use Rattle.listing_lines.proofs.Putting.{puts_nothing, puts_as, puts_more}
use Rattle.listing_text.specs.Listing.{entry_lines, listing}

pub entries_none : (s out : List ℕ) (at : ℕ) → Puts (entry_lines s 0) 0 at out at out
unfolding entry_lines
entries_none s out at = puts_nothing out at

-- position, offset and count are those of entry t
pub entries_more : (s : List ℕ) (t position offset count : ℕ) {at end next : ℕ} {out now then : List ℕ} → at ≤ length out
    → position ≡ position_in s t → offset ≡ offset_in s t → count ≡ count_in s t → Puts (entry_lines s t) (63 * t) at out end now
    → Puts (entry_line position offset count) 63 end now next then → Puts (entry_lines s (t + 1)) (63 * (t + 1)) at out next then
unfolding entry_lines
entries_more s t position offset count inside p o c before line =
    rw (add-one t) (puts_as (ap (entry_lines s t ++◌) (cc (p, o, c))) (omega arith) (puts_more inside before line))

-- the header's line and the entries'
pub listing_puts : (s : List ℕ) (k n bytes held blocks : ℕ) {end next : ℕ} {out now then : List ℕ} → k ≡ k_in s → n ≡ n_in s → bytes ≡ length_in s
    → held ≡ held_in s → blocks ≡ blocks_in s → Puts (header_line k n bytes held blocks) 128 0 out end now
    → Puts (entry_lines s (held_in s)) (63 * held_in s) end now next then → Puts (listing s) (128 + 63 * held_in s) 0 out next then
unfolding listing
listing_puts s k n bytes held blocks a b c d e header entries =
    puts_as (cc (a, b, c, d, e)) (omega arith) (puts_more (omega arith) header entries)
