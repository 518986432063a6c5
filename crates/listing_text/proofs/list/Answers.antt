-- `listing_text::list` meets its contract: the answer, the working space cleared, and the text that goes with the answer.
-- Assumes nothing.
use Prim.Native.Nat.{zero-le}
use native.Mathlib.Omega.{arith}
use Rattle.listing_lines.proofs.Putting.{puts_more}
use Rattle.listing_text.specs.Calls.{text_room}
use Rattle.listing_text.proofs.Answering.{whole_good, whole_leaves, partly_good, partly_leaves, alone_leaves}
use Rattle.listing_text.proofs.list.Goals as goal

pub invariant_of-put_listing : goal.invariant_of-put_listing
unfolding text_room
invariant_of-put_listing c = record { good = (whole_good c.args.input.now c.args.text.now c.args.work.now _ _ c.program_answer-answer.auto.work c.clear.ensures _ c.program_answer-answer.ensures _ c.in-Ok.is).0 }

pub put_listing-end-requires : goal.put_listing-end-requires
unfolding text_room
put_listing-end-requires c = omega (arith, whole_good c.args.input.now c.args.text.now c.args.work.now _ _ c.program_answer-answer.auto.work c.clear.ensures _ c.program_answer-answer.ensures _ c.in-Ok.is, c.requires.0)

pub put_ok-requires : goal.put_ok-requires
unfolding text_room
put_ok-requires c =
    omega (
      arith,
      whole_good c.args.input.now c.args.text.now c.args.work.now _ _ c.program_answer-answer.auto.work c.clear.ensures _ c.program_answer-answer.ensures _ c.in-Ok.is,
      c.requires.0,
      c.put_listing-end.ensures.ends,
      c.put_listing-end.ensures.short,
      c.put_listing-end.auto.out,
    )

pub put_refused-requires : goal.put_refused-requires
unfolding text_room
put_refused-requires c = omega (arith, c.requires.0)

pub returns-then-alone : goal.returns-then-alone
unfolding text_room
returns-then-alone c = alone_leaves c.args.input.now c.args.text.now c.args.work.now _ _ c.program_answer-answer.auto.work c.clear.ensures _ c.program_answer-answer.ensures _ _ c.in-Err.is c.alone.ensures _ c.if-alone.true c.put_refused.ensures

pub invariant_of-put_listing-in-Err : goal.invariant_of-put_listing-in-Err
unfolding text_room
invariant_of-put_listing-in-Err c = record { good = (partly_good c.args.input.now c.args.text.now c.args.work.now _ _ c.program_answer-answer.auto.work c.clear.ensures _ c.program_answer-answer.ensures _ _ c.in-Err.is c.alone.ensures c.if-alone.false).0 }

pub put_listing-end-requires-in-Err : goal.put_listing-end-requires-in-Err
unfolding text_room
put_listing-end-requires-in-Err c = omega (arith, partly_good c.args.input.now c.args.text.now c.args.work.now _ _ c.program_answer-answer.auto.work c.clear.ensures _ c.program_answer-answer.ensures _ _ c.in-Err.is c.alone.ensures c.if-alone.false, c.requires.0)

pub put_refused-requires-in-Err : goal.put_refused-requires-in-Err
unfolding text_room
put_refused-requires-in-Err c =
    omega (
      arith,
      partly_good c.args.input.now c.args.text.now c.args.work.now _ _ c.program_answer-answer.auto.work c.clear.ensures _ c.program_answer-answer.ensures _ _ c.in-Err.is c.alone.ensures c.if-alone.false,
      c.requires.0,
      c.put_listing-end-in-Err.ensures.ends,
      c.put_listing-end-in-Err.ensures.short,
      c.put_listing-end-in-Err.auto.out,
    )

pub returns-in-Ok : goal.returns-in-Ok
unfolding text_room
returns-in-Ok c = whole_leaves c.args.input.now c.args.text.now c.args.work.now _ _ c.program_answer-answer.auto.work c.clear.ensures _ c.program_answer-answer.ensures _ c.in-Ok.is _ (puts_more zero-le c.put_listing-end.ensures c.put_ok.ensures)

pub returns-else-alone : goal.returns-else-alone
unfolding text_room
returns-else-alone c =
    partly_leaves c.args.input.now c.args.text.now c.args.work.now _ _ c.program_answer-answer.auto.work c.clear.ensures _ c.program_answer-answer.ensures _ _ c.in-Err.is c.alone.ensures _ c.if-alone.false
    (puts_more zero-le c.put_listing-end-in-Err.ensures c.put_refused-in-Err.ensures)
