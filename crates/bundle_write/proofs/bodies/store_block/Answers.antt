-- `bundle_write::bodies::store_block` meets its contract: the bodies passed have the block, the others those before it.
-- Assumes nothing.
use native.Mathlib.Omega.{arith}
use Rattle.bundle_front.proofs.Bundling.{symbol_small}
use Rattle.bundle_file.proofs.Counting.{count_here}
use Rattle.bundle_write.proofs.Filling.{still_room, turn_inside, turn_done, turn_onward, turn_filled, block_done}
use Rattle.bundle_front.proofs.Fronting.{entry_fits}
use Rattle.bundle_write.proofs.bodies.store_block.Goals as goal

pub put_symbol-requires : goal.put_symbol-requires
put_symbol-requires c =
    let l = c.loop-i in
    let s = c.args.source in
    let out = c.args.out.now in
    let before = c.requires.begun in
    let inside = c.loop-i-test.true in
    let listed = count_here s.n _ c.args.cells.now c.size-size.ensures s.k s.file.now _ c.requires.counted l.i inside in record {
      inside = (
        entry_fits _ _ s.file.now s.shaped l.i inside l.out (still_room _ _ s.file.now s.shaped _ before.0 out l.out before.1 l.invariant.0),
        turn_inside _ _ s.file.now s.shaped _ before.0 out l.out before.1 l.invariant.0 l.i inside _ listed _ c.blocks-blocks.ensures.0,
        c.blocks-blocks.ensures.1,
      );
      next = (
        omega (arith, c.blocks-blocks.ensures, before.0),
        turn_done _ _ s.file.now s.shaped _ before.0 out l.out before.1 l.invariant.0 l.i inside _ listed,
        omega (arith, c.requires.coded l.i inside, symbol_small s.k s.n s.file.now l.i c.args.b),
      );
    }

pub loop-i-preserved : goal.loop-i-preserved
loop-i-preserved c =
    let l = c.loop-i in
    let s = c.args.source in
    let out = c.args.out.now in
    let before = c.requires.begun in
    let inside = c.loop-i-test.true in
    let listed = count_here s.n _ c.args.cells.now c.size-size.ensures s.k s.file.now _ c.requires.counted l.i inside in
    let symbol = c.requires.coded l.i inside in (
      turn_onward _ _ s.file.now s.shaped _ before.0 out l.out before.1 l.invariant.0 l.i inside _ listed _ symbol c.put_symbol.new.out c.put_symbol.ensures,
      turn_filled _ _ s.file.now s.shaped _ before.0 out l.out before.1 l.invariant.0 l.i inside _ listed _ symbol c.put_symbol.new.out c.put_symbol.ensures l.invariant.1,
    )

pub returns-clause-progress : goal.returns-clause-progress
returns-clause-progress c =
    let l = c.loop-i in
    let s = c.args.source in
    let before = c.requires.begun in
    block_done _ _ s.file.now s.shaped _ before.0 c.args.out.now l.out before.1 l.invariant.0 (λ j h. l.invariant.1 j (omega arith))
