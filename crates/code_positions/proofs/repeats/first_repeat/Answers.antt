-- `code_positions::repeats::first_repeat` meets its contract: at the loop's head no position passed is a repeat, and just these are marked.
-- Assumes nothing.
use mathlib.Core.Path.{sym, ◌∙◌}
use Prim.Native.Nat.{◌/◌, ◌<◌}
use native.Mathlib.Omega.{arith}
use borrow.Author.Rules.{rules}
use lib.ListN.{length, get_or}
use Rattle.limits.specs.Shape.{longest}
use Rattle.answers.proofs.First.{found_here, found_nowhere}
use Rattle.code_positions.proofs.Repeating.{passed_none, passed_more, passed_here, passed_all}
use Rattle.code_positions.proofs.repeats.first_repeat.Goals as goal
use Rattle.code_positions.proofs.repeats.first_repeat.Goals.{In-loop-i}

-- the map has a cell for the position
cell : (c : In-loop-i)
    → get_or c.args.positions.now c.loop-i.i 0 / 32 < length c.loop-i.map
unfolding longest
cell c = omega (arith, c.requires c.loop-i.i c.loop-i-test.true)

pub loop-i-init : goal.loop-i-init
unfolding longest
loop-i-init c = (search rules, passed_none _ (longest / 32) _ (search rules))

pub is_seen-requires : goal.is_seen-requires
unfolding longest
is_seen-requires c = omega (arith, cell (goal.at.is_seen-requires c).In-loop-i)

pub returns-then-is_seen : goal.returns-then-is_seen
unfolding longest
returns-then-is_seen c =
    let l = c.loop-i in
    let found = sym c.is_seen.ensures ∙ c.if-is_seen.true in
    found_here _ _ (passed_here _ l.map l.i l.invariant.1 _ (search rules) c.loop-i-test.true found) c.loop-i-test.true

pub note_seen-requires : goal.note_seen-requires
unfolding longest
note_seen-requires c = (omega (arith, cell (goal.at.note_seen-requires c).In-loop-i), sym c.is_seen.ensures ∙ c.if-is_seen.false)

pub loop-i-preserved : goal.loop-i-preserved
unfolding longest
loop-i-preserved c =
    let l = c.loop-i in
    let free = sym c.is_seen.ensures ∙ c.if-is_seen.false in (
      c.note_seen.auto.map ∙ l.invariant.0,
      rw c.note_seen.ensures (passed_more _ l.map l.i l.invariant.1 _ (search rules) c.loop-i-test.true free (cell (goal.at.loop-i-preserved c).In-loop-i)),
    )

pub returns : goal.returns
unfolding longest
returns c =
    let l = c.loop-i in
    found_nowhere _ _ (omega (arith, passed_all _ l.map l.i l.invariant.1 c.loop-i-test.false))
