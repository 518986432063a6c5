-- `listing_text::table::put_listing` meets its contract: the header's line is put, and the entries' behind it.
-- Assumes nothing.
use native.Mathlib.Omega.{arith}
use Rattle.listing_text.proofs.Tabling.{listing_puts}
use Rattle.listing_text.proofs.table.put_listing.Goals as goal

pub put_entries-requires : goal.put_entries-requires
put_entries-requires c = omega (arith, c.put_header_line-end.ensures.ends, c.put_header_line-end.ensures.short, c.put_header_line-end.auto.out)

pub returns : goal.returns
returns c =
    listing_puts c.args.bundle.bytes.now _ _ _ _ _ c.k.ensures.0 c.n.ensures.0 c.length.ensures.0 c.held.ensures.0 c.blocks-2.ensures.0
    c.put_header_line-end.ensures c.put_entries.ensures
