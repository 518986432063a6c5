-- `listing_text::answer::served_answer` meets its contract: the program's own checks, and then the blocks.
-- Assumes nothing.
use mathlib.Core.Path.{refl, ap, ◌∙◌}
use native.Mathlib.Omega.{arith}
use Rattle.answers.proofs.Leaves.{lent_length}
use Rattle.bundle_layout.specs.Rooms.{bundle_work}
use Rattle.listing_text.specs.Answers.{most_n, most_length}
use Rattle.listing_text.proofs.Answering.{n_refused, length_refused, held_refused, blocks_judged, cells_enough}
use Rattle.listing_text.proofs.answer.served_answer.Goals as goal

pub returns-then-n-gt-MOST_N : goal.returns-then-n-gt-MOST_N
unfolding most_n most_length
returns-then-n-gt-MOST_N c = n_refused c.args.bundle.bytes.now _ _ _ _ c.n-n.ensures.0 refl refl refl c.if-n-gt-MOST_N.true

pub returns-then-length-gt-MOST_LENGTH : goal.returns-then-length-gt-MOST_LENGTH
unfolding most_n most_length
returns-then-length-gt-MOST_LENGTH c = length_refused c.args.bundle.bytes.now _ _ _ _ c.n-n.ensures.0 c.length.ensures.0 refl refl c.if-length-gt-MOST_LENGTH.true

pub returns-then-held-k : goal.returns-then-held-k
unfolding most_n most_length
returns-then-held-k c = held_refused c.args.bundle.bytes.now _ _ _ _ c.n-n.ensures.0 c.length.ensures.0 c.held.ensures.0 c.k.ensures.0 c.if-n-gt-MOST_N.false c.if-length-gt-MOST_LENGTH.false c.if-held-k.true

pub slice_bounds-blocks_answer-end : goal.slice_bounds-blocks_answer-end
unfolding most_n most_length
slice_bounds-blocks_answer-end c = omega (arith, c.requires, cells_enough _ _ c.if-n-gt-MOST_N.false c.bundle_work-stated.ensures)

pub blocks_answer-requires : goal.blocks_answer-requires
unfolding most_n most_length
blocks_answer-requires c = (omega (arith, c.if-held-k.false, c.k.ensures.0, c.held.ensures.0), lent_length _ _ _ c.bundle_work-stated.ensures (omega (arith, c.requires, cells_enough _ _ c.if-n-gt-MOST_N.false c.bundle_work-stated.ensures)) ∙ ap bundle_work c.n-n.ensures.0)

pub returns : goal.returns
unfolding most_n most_length
returns c =
    c.blocks_answer.ensures
    ∙ blocks_judged c.args.bundle.bytes.now _ _ _ _ c.n-n.ensures.0 c.length.ensures.0 c.held.ensures.0 c.k.ensures.0 c.if-n-gt-MOST_N.false c.if-length-gt-MOST_LENGTH.false c.if-held-k.false
