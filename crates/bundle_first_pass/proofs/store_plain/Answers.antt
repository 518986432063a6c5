-- `bundle_first_pass::store_plain` meets its contract: the bodies passed have the block, the others those before it, if no symbol overflows.
-- Assumes nothing.
use native.Mathlib.Omega.{arith}
use borrow.Author.Rules.{rules}
use Rattle.bundle_layout.specs.Shadows.{header_size, entry_size, first_body}
use Rattle.bundle_layout.proofs.Holding.{limits}
use Rattle.bundle_file.proofs.Counting.{symbols_length, symbol_lent}
use Rattle.bundle_front.proofs.Bundling.{symbol_small}
use Rattle.bundle_first_pass.proofs.Laying.{plain_at, plainly_none, at_next, plain_inside, turn_plainly, turn_plain}
use Rattle.bundle_first_pass.proofs.store_plain.Goals as goal

pub overflow_add-at : goal.overflow_add-at
overflow_add-at c = omega (arith, (limits _ _ _ c.args.source.shaped).long)

pub loop-symbol-init : goal.loop-symbol-init
unfolding plain_at first_body header_size entry_size
loop-symbol-init c = (omega arith, plainly_none _ _ _ _, λ none j h. absurd (omega arith))

pub put_at-requires : goal.put_at-requires
put_at-requires c =
    let l = c.loop-symbol in
    let s = c.args.source in
    let before = c.requires.begun in
    let blocks = c.blocks-blocks.ensures.0 in
    let here = symbol_lent s.k s.n s.file.now _ c.args.cells.now before.2 c.requires.coded l.symbol-index c.loop-symbol-test.true in (
      omega (arith, plain_inside _ _ s.file.now s.shaped l.symbol-index here.0 l.at _ l.invariant.0 blocks, before.1.room, l.auto.out),
      c.blocks-blocks.ensures.1,
      search rules,
      omega (arith, blocks, before.0),
      search rules,
      omega (arith, here.1, symbol_small s.k s.n s.file.now l.symbol-index c.args.b),
    )

pub overflow_add-at-in-loop-symbol : goal.overflow_add-at-in-loop-symbol
overflow_add-at-in-loop-symbol c =
    let l = c.loop-symbol in
    let s = c.args.source in
    let before = c.requires.begun in
    let blocks = c.blocks-blocks.ensures.0 in
    let here = symbol_lent s.k s.n s.file.now _ c.args.cells.now before.2 c.requires.coded l.symbol-index c.loop-symbol-test.true in
    omega (arith, c.body_size-size.ensures, plain_inside _ _ s.file.now s.shaped l.symbol-index here.0 l.at _ l.invariant.0 blocks, before.1.room, l.auto.out)

pub loop-symbol-preserved : goal.loop-symbol-preserved
loop-symbol-preserved c =
    let l = c.loop-symbol in
    let s = c.args.source in
    let before = c.requires.begun in
    let blocks = c.blocks-blocks.ensures.0 in
    let here = symbol_lent s.k s.n s.file.now _ c.args.cells.now before.2 c.requires.coded l.symbol-index c.loop-symbol-test.true in (
      at_next _ _ s.file.now s.shaped l.symbol-index here.0 l.at _ l.invariant.0 blocks _ c.body_size-size.ensures,
      turn_plainly _ _ s.file.now s.shaped l.symbol-index here.0 l.at _ l.invariant.0 blocks _ before.0 c.args.out.now l.out before.1 l.invariant.1 _ here.1 c.put_at.new.out c.put_at.auto.out c.put_at.ensures,
      turn_plain _ _ s.file.now s.shaped l.symbol-index here.0 l.at _ l.invariant.0 blocks _ before.0 c.args.out.now l.out before.1 l.invariant.1 _ here.1 c.put_at.new.out c.put_at.auto.out c.put_at.ensures l.invariant.2,
    )

pub returns-clause-plain : goal.returns-clause-plain
returns-clause-plain c =
    let l = c.loop-symbol in
    let s = c.args.source in
    let all = symbols_length s.n c.args.cells.now c.requires.begun.2 in
    record { room = omega (arith, c.requires.begun.1.room, l.auto.out); bodies = λ none j h. l.invariant.2 none j (omega (arith, all)) }
