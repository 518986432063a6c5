-- `listing_text::table::put_entries` meets its contract: after each step the lines of the entries passed stand one behind the other.
-- Assumes nothing.
use mathlib.Core.Path.{refl, subst, ◌∙◌}
use Prim.Native.Nat.{ℕ, ◌*◌}
use native.Mathlib.Omega.{arith}
use Rattle.bundle_layout.specs.Fields.{held_in}
use Rattle.listing_lines.specs.Puts.{Puts}
use Rattle.listing_text.specs.Listing.{entry_lines}
use Rattle.listing_text.proofs.Tabling.{entries_none, entries_more}
use Rattle.listing_text.proofs.table.put_entries.Goals as goal

pub loop-t-init : goal.loop-t-init
loop-t-init c = (refl, entries_none c.args.bundle.bytes.now c.args.out.now c.args.at)

pub put_entry_line-end-requires : goal.put_entry_line-end-requires
put_entry_line-end-requires c =
    omega (arith, c.loop-t-test.true, c.held-t-end.ensures.0, c.requires, c.loop-t.invariant.0, c.loop-t.invariant.1.ends, c.loop-t.invariant.1.short)

pub loop-t-preserved : goal.loop-t-preserved
loop-t-preserved c =
    let told = c.entry-entry.ensures in (
      c.put_entry_line-end.auto.out ∙ c.loop-t.invariant.0,
      entries_more c.args.bundle.bytes.now c.loop-t.t _ _ _ (omega (arith, c.requires)) told.position.0 told.offset.0 told.count.0 c.loop-t.invariant.1
          c.put_entry_line-end.ensures,
    )

pub returns : goal.returns
returns c =
    subst (λ (m : ℕ). Puts (entry_lines c.args.bundle.bytes.now m) (63 * m) c.args.at c.args.out.now c.loop-t.end c.loop-t.out)
    {x = c.loop-t.t} {y = held_in c.args.bundle.bytes.now}
    (omega (arith, c.loop-t.auto.t-end, c.loop-t-test.false, c.held-t-end.ensures.0)) c.loop-t.invariant.1
