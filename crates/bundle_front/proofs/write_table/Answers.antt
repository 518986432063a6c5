-- `bundle_front::write_table` meets its contract: the entries passed stand, and the next body begins where the last one ends.
-- Assumes nothing.
use mathlib.Core.Path.{sym, ap, ◌∙◌}
use Prim.Native.Nat.{◌+◌, ◌≤◌}
use native.Mathlib.Omega.{arith}
use lib.ListN.{length}
use Rattle.bundle_layout.specs.Fields.{entry_at}
use Rattle.bundle_layout.specs.Shadows.{header_size, entry_size, first_body}
use Rattle.bundle_layout.proofs.Holding.{limits}
use Rattle.bundle_file.specs.File.{file_bundle}
use Rattle.bundle_front.proofs.Bundling.{body_at, body_first, bundle_end}
use Rattle.bundle_file.proofs.Counting.{count_lent, counts_length}
use Rattle.bundle_front.proofs.Fronting.{body_low, count_low, body_after, entry_fits, entry_onward, entry_stands}
use Rattle.bundle_front.proofs.Onward.{onward_none}
use Rattle.bundle_front.proofs.write_table.Goals as goal

pub loop-i-init : goal.loop-i-init
unfolding first_body entry_at header_size entry_size
loop-i-init c =
    let s = c.args.source in
    (omega (arith, body_first s.k s.n s.file.now), onward_none _ _, λ p g l. absurd (omega arith))

pub put_entry-requires : goal.put_entry-requires
put_entry-requires c =
    let l = c.loop-i in
    let s = c.args.source in
    let here = count_lent s.n _ c.args.cells.now c.size-size.ensures s.k s.file.now _ c.requires.1 l.i c.loop-i-test.true in (
      entry_fits _ _ s.file.now s.shaped l.i here.0 l.out (omega (arith, l.auto.out, c.requires.0)),
      omega (arith, (limits _ _ _ s.shaped).long, here.0),
      count_low _ _ s.file.now s.shaped l.i here.0 _ here.1,
      omega (arith, l.invariant.0, body_low _ _ s.file.now s.shaped l.i (omega (arith, here.0))),
    )

pub body_size-at-requires : goal.body_size-at-requires
body_size-at-requires c =
    let l = c.loop-i in
    let s = c.args.source in
    let here = count_lent s.n _ c.args.cells.now c.size-size.ensures s.k s.file.now _ c.requires.1 l.i c.loop-i-test.true in (
      c.blocks-blocks.ensures.1,
      count_low _ _ s.file.now s.shaped l.i here.0 _ here.1,
    )

pub overflow_add-at-in-loop-i : goal.overflow_add-at-in-loop-i
overflow_add-at-in-loop-i c =
    let l = c.loop-i in
    let s = c.args.source in
    let here = count_lent s.n _ c.args.cells.now c.size-size.ensures s.k s.file.now _ c.requires.1 l.i c.loop-i-test.true in
    omega (arith, body_after _ _ s.file.now s.shaped l.i here.0 _ here.1 l.at _ _ l.invariant.0 c.blocks-blocks.ensures.0 c.body_size-at.ensures, body_low _ _ s.file.now s.shaped (l.i + 1) (omega (arith, here.0)))

pub loop-i-preserved : goal.loop-i-preserved
loop-i-preserved c =
    let l = c.loop-i in
    let s = c.args.source in
    let here = count_lent s.n _ c.args.cells.now c.size-size.ensures s.k s.file.now _ c.requires.1 l.i c.loop-i-test.true in
    let room : length (file_bundle s.k s.n s.file.now) ≤ length l.out = omega (arith, l.auto.out, c.requires.0) in (
      body_after _ _ s.file.now s.shaped l.i here.0 _ here.1 l.at _ _ l.invariant.0 c.blocks-blocks.ensures.0 c.body_size-at.ensures,
      entry_onward _ _ s.file.now s.shaped l.i here.0 l.out room _ l.at here.1 l.invariant.0 _ c.put_entry.new.out l.invariant.1 c.put_entry.ensures,
      entry_stands _ _ s.file.now s.shaped l.i here.0 l.out room _ l.at here.1 l.invariant.0 _ c.put_entry.new.out l.invariant.1 c.put_entry.ensures l.invariant.2,
    )

pub returns-clause-value : goal.returns-clause-value
returns-clause-value c =
    let l = c.loop-i in
    let s = c.args.source in
    let all = counts_length s.n _ c.args.cells.now c.size-size.ensures s.k s.file.now _ c.requires.1 in
    l.invariant.0 ∙ ap (body_at s.k s.n s.file.now) {y = s.n} (omega (arith, all)) ∙ sym (bundle_end _ _ s.file.now s.shaped)

pub returns-clause-stand : goal.returns-clause-stand
unfolding first_body entry_at header_size entry_size
returns-clause-stand c p g h =
    let s = c.args.source in
    c.loop-i.invariant.2 p g (omega (arith, counts_length s.n _ c.args.cells.now c.size-size.ensures s.k s.file.now _ c.requires.1))
